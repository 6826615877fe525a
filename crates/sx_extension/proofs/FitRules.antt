-- The rules that an extension adds, and their bodies, without their names.
use Rattle.std.proofs.Common.{◌≡◌, ℕ, suc, ◌<◌, ◌≤◌, ◌^◌, List, [], ◌∷◌, ◌++◌, length, map, Option}
use Rattle.std.proofs.Common.{refl, ap, subst, arith}
use Rattle.std.specs.Prelude.{option_map, IfSome}
use Rattle.std.specs.List.{AllByRecursion}
use Rattle.std.proofs.lemmas.List.{length-map}
use Rattle.sx_term.specs.Term.{tree}
use Rattle.sx_term.specs.Tree.{Tree, depth_of}
use Rattle.sx_term.specs.Sorts.{Shape}
use Rattle.sx_grammar.specs.Grammar.{Text}
use Rattle.sx_rules.specs.Deep.{RulesAreShallow}
use Rattle.sx_rules.specs.Good.{AllGood, IsRuleSet}
use Rattle.sx_rules.specs.Modes.{AllModed}
use Rattle.sx_rules.specs.Rules.{Premise, Rule}
use Rattle.sx_rules.specs.Sorts.{RulesAreSorted}
use Rattle.sx_rules.specs.Views.{FormData, NamedRule, named, premise, rule, modes_of, subjects_in}
use Rattle.sx_rules.specs.Views.{sorts_of}
use Rattle.sx_outline.specs.Sized.{HasShortLines}
use Rattle.sx_outline.specs.Stages.{Numbered, RuleData}
use Rattle.sx_rewrite.specs.declared.ext_rule.ExtRule.{ExtRule}
use Rattle.sx_rewrite.specs.declared.extension_data.ExtensionData.{ExtensionData}
use Rattle.sx_rewrite.specs.Accepted.{AllDisciplined}
use Rattle.sx_rewrite.specs.ExtensionView.{ext_rule}
use Rattle.sx_rewrite.proofs.RuleSets.{good_rules_are_disciplined}
use Rattle.sx_language.specs.RuleLine.{Reader}
use Rattle.sx_language.specs.RuleTexts.{ArePremises, AreRules}
use Rattle.sx_language.proofs.UsableRules.{rules_shallow}
use Rattle.sx_extension.specs.Fitting.{ExtensionIsUsable}

abbrev pub rules_of : List ExtRule → List NamedRule
rules_of es = map (λ e. named e.rule) es

abbrev pub bodies_of : List ExtRule → List (Option Tree)
bodies_of es = map (λ e. option_map tree e.body) es

-- ---- a rule set

module _ (shapes : List Shape) (forms : List FormData) where
  -- the rules behind others are good after some names
  good_behind : (names : List (List ℕ)) (xs ys : List NamedRule) →
      AllGood shapes forms names (xs ++ ys) → (more : List (List ℕ)) × AllGood shapes forms more ys
  good_behind names [] ys h = (names, h)
  good_behind names (x ∷ xs) ys h = good_behind (names ++ x.name ∷ []) xs ys h.1

  bare : (es : List ExtRule) → map (λ (q : NamedRule). q.rule) (rules_of es) ≡ map (λ e. e.rule)
      (map ext_rule es)
  bare [] = refl
  bare (e ∷ es) = ap (λ (rs : List Rule). rule e.rule ∷ rs) (bare es)

  -- the rules of an extension are well sorted, moded and disciplined
  pub own_disciplined : (before : List NamedRule) (es : List ExtRule) →
      IsRuleSet shapes forms (before ++ rules_of es) →
      RulesAreSorted shapes (sorts_of forms) (map (λ e. e.rule) (map ext_rule es)) ×
      AllModed (modes_of forms) (map (λ e. e.rule) (map ext_rule es)) ×
      AllDisciplined (subjects_in forms) (map (λ e. e.rule) (map ext_rule es))
  own_disciplined before es h =
      let own = good_behind [] before (rules_of es) h.1 in
      let all = good_rules_are_disciplined shapes forms own.0 (rules_of es) own.1 in (
        subst (RulesAreSorted shapes (sorts_of forms)) (bare es) all.0,
        subst (AllModed (modes_of forms)) (bare es) all.1,
        subst (AllDisciplined (subjects_in forms)) (bare es) all.2,
      )

-- ---- what holds of each body

pub each_body : (P : Tree → Type 0) (es : List ExtRule) → AllByRecursion (λ b. IfSome b P)
    (bodies_of es) → AllByRecursion (λ e. IfSome e.body P) (map ext_rule es)
each_body P [] h = tt
each_body P (e ∷ es) h = (h.0, each_body P es h.1)

-- ---- terms that are not too deep, and few premises

as_many : (r : Reader) (ls : List Numbered) (old new : List Text) (qs : List Premise) →
    ArePremises r ls old new qs → length qs ≡ length ls
as_many r [] old new [] h = refl
as_many r [] old new (q ∷ qs) h = absurd h
as_many r (l ∷ ls) old new [] h = absurd h
as_many r (l ∷ ls) old new (q ∷ qs) h = ap suc (as_many r ls h.0 new qs h.2)

few_premises : (r : Reader) (ls : List RuleData) (ns : List (List Text)) (es : List ExtRule)
    (bs : List (Option Tree)) → AreRules r ls ns (rules_of es) bs →
    AllByRecursion (HasShortLines 262144) ls →
    AllByRecursion (λ e. length e.rule.premises.items < 2 ^ 32) es
few_premises r ls ns [] bs h short = tt
few_premises r [] [] (e ∷ es) bs h short = absurd h
few_premises r [] (n ∷ ns) (e ∷ es) bs h short = absurd h
few_premises r (l ∷ ls) [] (e ∷ es) bs h short = absurd h
few_premises r (l ∷ ls) (n ∷ ns) (e ∷ es) [] h short = absurd h
few_premises r (l ∷ ls) (n ∷ ns) (e ∷ es) (b ∷ bs) h short =
    let many = as_many r l.premises [] h.0.stated.middle (map premise e.rule.premises.items)
    h.0.stated.premises in (
      omega (arith, many, short.0.0, length-map e.rule.premises.items premise),
      few_premises r ls ns es bs h.1 short.1,
    )

unnamed : (es : List ExtRule) → map (λ (q : NamedRule). q.rule) (rules_of es) ≡ map
    (λ e. rule e.rule) es
unnamed [] = refl
unnamed (e ∷ es) = ap (λ (rs : List Rule). rule e.rule ∷ rs) (unnamed es)

pub usable : (r : Reader) (ls : List RuleData) (ns : List (List Text)) (x : ExtensionData) →
    AreRules r ls ns (rules_of x.rules.items) (bodies_of x.rules.items) →
    AllByRecursion (HasShortLines 262144) ls → ExtensionIsUsable x
usable r ls ns x h short =
    let es = x.rules.items in
    let all = rules_shallow r ls ns (rules_of es) (bodies_of es) h in
    record {
      shallow = subst RulesAreShallow (unnamed es) all.0;
      bodies = each_body (λ t. depth_of t ≤ 1000) es all.1;
      few = few_premises r ls ns es (bodies_of es) h short;
    }
