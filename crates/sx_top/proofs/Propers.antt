-- What a core file gives the search and the texts.
use Rattle.std.proofs.Common.{◌≡◌, ◌≢◌, ℕ, List, [], ◌∷◌, ◌++◌, map, inl, inr, refl, sym, subst}
use Rattle.std.specs.Prelude.{Ok}
use Rattle.std.specs.List.{AllByRecursion}
use Rattle.sx_term.specs.Tree.{Tree, Trees, node, lexeme, hole, none, ◌▹◌}
use Rattle.sx_term.specs.Sorts.{Shape}
use Rattle.sx_term.specs.Core.{HasCore, HaveCore, IsWritable, AreWritable}
use Rattle.sx_rules.specs.Rules.{Premise, holds, apart}
use Rattle.sx_rules.specs.Views.{FormData, NamedRule, modes_of}
use Rattle.sx_rules.specs.Modes.{AllModed}
use Rattle.sx_rules.specs.Good.{IsAmong, AllGood}
use Rattle.sx_rules.specs.RuleNames.{AreNames, AreNamesDistinct}
use Rattle.sx_rules.specs.Writable.{HaveTexts, PremisesHaveTexts, RulesHaveTexts}
use Rattle.sx_rules.specs.Derivations.{AreShallow}
use Rattle.sx_core.specs.Problem.{Problem}
use Rattle.sx_core.specs.File.{CoreFile, SortRow, PremiseRow, if_line, not_line, RuleRows}
use Rattle.sx_core.specs.Stated.{AreReadable, AreCorePremises, AreCoreRules, StatesProblem}
use Rattle.sx_core.specs.CoreRead.{IsCoreAnswer}
use Rattle.sx_top.specs.Terms.{AreTerms}
use Rattle.sx_top.specs.Proper.{IsProper}
use Rattle.sx_top.proofs.Utf8.{core_utf8}

-- a term with a core text can be written
mutual
  writable : (t : Tree) → HasCore t → IsWritable t
  writable (node label kids) has = writables kids has.1
  writable (lexeme kind text) has = (has.0, has.1)
  writable (hole variable) has = has

  writables : (ts : Trees) → HaveCore ts → AreWritable ts
  writables none have = tt
  writables (t ▹ ts) have = (writable t have.0, writables ts have.1)

-- terms that have core texts and are not too deep can be written
pub terms_of : (ts : List Tree) → HaveTexts ts → AreShallow ts → AreTerms ts
terms_of [] have are = tt
terms_of (t ∷ ts) have are = (are.0, writable t have.0, core_utf8 t have.0, terms_of ts have.1 are.1)

readable_texts : (ts : List Tree) → AreReadable ts → HaveTexts ts
readable_texts [] are = tt
readable_texts (t ∷ ts) are = (are.0, readable_texts ts are.2)

readable_shallow : (ts : List Tree) → AreReadable ts → AreShallow ts
readable_shallow [] are = tt
readable_shallow (t ∷ ts) are = (are.1, readable_shallow ts are.2)

texts_as : (ts us : List Tree) → ts ≡ us → AreReadable us → HaveTexts ts
texts_as ts us same are = subst HaveTexts (sym same) (readable_texts us are)

premises_texts : (forms : List FormData) (rows : List PremiseRow) (ps : List Premise) → AreCorePremises forms rows ps → PremisesHaveTexts ps
premises_texts forms [] [] are = tt
premises_texts forms [] (p ∷ ps) are = absurd are
premises_texts forms (row ∷ rows) [] are = tt
premises_texts forms (if_line row ∷ rows) (holds j ∷ ps) are = (texts_as j.places row.terms are.0.places are.0.readable, premises_texts forms rows ps are.1)
premises_texts forms (if_line row ∷ rows) (apart t u ∷ ps) are = absurd are
premises_texts forms (not_line left right ∷ rows) (holds j ∷ ps) are = absurd are
premises_texts forms (not_line left right ∷ rows) (apart t u ∷ ps) are = premises_texts forms rows ps are.3

rules_texts : (rows : List SortRow) (forms : List FormData) (lines : List RuleRows) (rs : List NamedRule) → AreCoreRules rows forms lines rs → RulesHaveTexts (map (λ r. r.rule) rs)
rules_texts rows forms [] [] are = tt
rules_texts rows forms [] (r ∷ rs) are = absurd are
rules_texts rows forms (l ∷ ls) [] are = tt
rules_texts rows forms (l ∷ ls) (r ∷ rs) are =
    let one = are.0 in
    ((premises_texts forms l.premises r.rule.premises one.premises, texts_as r.rule.conclusion.places l.conclusion.terms one.conclusion.places one.conclusion.readable), rules_texts rows forms ls rs are.1)

rules_names : (rows : List SortRow) (forms : List FormData) (lines : List RuleRows) (rs : List NamedRule) → AreCoreRules rows forms lines rs → AreNames (map (λ r. r.name) rs)
rules_names rows forms [] [] are = tt
rules_names rows forms [] (r ∷ rs) are = absurd are
rules_names rows forms (l ∷ ls) [] are = tt
rules_names rows forms (l ∷ ls) (r ∷ rs) are = (are.0.is_name, rules_names rows forms ls rs are.1)

module _ (shapes : List Shape) (forms : List FormData) where
  all_moded : (names : List (List ℕ)) (rs : List NamedRule) → AllGood shapes forms names rs → AllModed (modes_of forms) (map (λ r. r.rule) rs)
  all_moded names [] good = tt
  all_moded names (r ∷ rs) good = (good.0.moded, all_moded (names ++ r.name ∷ []) rs good.1)

  -- a name among the first names is no rule's
  among_front : (name : List ℕ) (names more : List (List ℕ)) → IsAmong name names → IsAmong name (names ++ more)
  among_front name [] more among = absurd among
  among_front name (n ∷ names) more (inl same) = inl same
  among_front name (n ∷ names) more (inr among) = inr (among_front name names more among)

  among_end : (name : List ℕ) (names : List (List ℕ)) → IsAmong name (names ++ name ∷ [])
  among_end name [] = inl refl
  among_end name (n ∷ names) = inr (among_end name names)

  fresh_names : (name : List ℕ) (names : List (List ℕ)) (rs : List NamedRule) → IsAmong name names → AllGood shapes forms names rs → AllByRecursion (λ y. name ≢ y) (map (λ r. r.name) rs)
  fresh_names name names [] among good = tt
  fresh_names name names (r ∷ rs) among good = (
    λ same. good.0.fresh (subst (λ (n : List ℕ). IsAmong n names) same among),
    fresh_names name (names ++ r.name ∷ []) rs (among_front name names (r.name ∷ []) among) good.1,
  )

  all_distinct : (names : List (List ℕ)) (rs : List NamedRule) → AllGood shapes forms names rs → AreNamesDistinct (map (λ r. r.name) rs)
  all_distinct names [] good = tt
  all_distinct names (r ∷ rs) good = (fresh_names r.name (names ++ r.name ∷ []) rs (among_end r.name names) good.1, all_distinct (names ++ r.name ∷ []) rs good.1)

stated_proper : (file : CoreFile) (p : Problem) → StatesProblem file p → IsProper p
stated_proper file p states =
    let says = states.says in
    record {
      moded = all_moded p.shapes p.forms [] p.rules states.rule_set.1;
      names = rules_names _ p.forms file.rules p.rules says.rules;
      distinct = all_distinct p.shapes p.forms [] p.rules states.rule_set.1;
      rules = rules_texts _ p.forms file.rules p.rules says.rules;
      texts = texts_as p.goal.terms file.goal.terms says.goal.terms says.goal.readable;
      shallow = subst AreShallow (sym says.goal.terms) (readable_shallow file.goal.terms says.goal.readable);
    }

-- what a core file states is proper
pub proper : (bytes : List ℕ) (p : Problem) → IsCoreAnswer bytes (Ok p) → IsProper p
proper bytes p answer = let stated = answer.1 in stated_proper stated.0 p stated.2
