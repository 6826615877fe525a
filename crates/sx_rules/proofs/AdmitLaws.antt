-- Rules after those of a set, and more shapes.
use Rattle.std.proofs.Common.{◌≡◌, ℕ, zero, suc, ◌+◌, ◌≤◌, List, [], ◌∷◌, ◌++◌, inr, map, length, Some, Ok, Err, refl, ap, sym, subst, arith, append_assoc, ◌∙◌}
use Rattle.std.proofs.lemmas.List.{map-append}
use Rattle.std.specs.Prelude.{slice_get, Result}
use Rattle.sx_term.specs.Tree.{Tree, Trees, node, lexeme, hole, none, ◌▹◌}
use Rattle.sx_term.specs.declared.sort.Sort.{Sort}
use Rattle.sx_term.specs.declared.sort.Sort.TheVariants.{Lex}
use Rattle.sx_term.specs.Sorts.{Shape, HasSort, KidsHaveSorts, HaveSorts}
use Rattle.sx_rules.specs.declared.rule.Rule.{Rule as RuleOf}
use Rattle.sx_rules.specs.declared.error.RuleError.{RuleError}
use Rattle.sx_rules.specs.declared.error.RuleError.TheVariants.{Memory, TooManyRules, TooManyVars, SameRule, SortDiffers, Discipline, NotModed}
use Rattle.sx_rules.specs.Rules.{Premise, holds, apart, Rule}
use Rattle.sx_rules.specs.Views.{FormData, NamedRule, named}
use Rattle.sx_rules.specs.Fits.{PremisesFit, RuleFits}
use Rattle.sx_rules.specs.Good.{IsGood, AllGood, IsFirstBreach, IsRuleSet, AreChecked, names_of}
use Rattle.sx_rules.specs.Admitted.{IsAdmitted}
use Rattle.sx_rules.proofs.SetLaws.{nothing_more}

-- a shape of a list stands at its place in a longer one
front_at : (shapes new : List Shape) (label : ℕ) (shape : Shape) → slice_get shapes label ≡ Some shape → slice_get (shapes ++ new) label ≡ Some shape
front_at [] new label shape e = absurd cc
front_at (s ∷ shapes) new zero shape e = e
front_at (s ∷ shapes) new (suc label) shape e = front_at shapes new label shape e

-- what fits shapes fits more of them
module _ (shapes new : List Shape) (vars : List Sort) where
  mutual
    term_fits : (t : Tree) (sort : Sort) → HasSort shapes vars t sort → HasSort (shapes ++ new) vars t sort
    term_fits (node label ts) sort h = (h.0, front_at shapes new label h.0 h.1, h.2, kids_fit ts h.0.kids h.3)
    term_fits (lexeme kind text) sort h = h
    term_fits (hole v) sort h = h

    kids_fit : (ts : Trees) (sorts : List Sort) → KidsHaveSorts shapes vars ts sorts → KidsHaveSorts (shapes ++ new) vars ts sorts
    kids_fit none [] h = tt
    kids_fit none (x ∷ xs) h = absurd h
    kids_fit (t ▹ ts) [] h = absurd h
    kids_fit (t ▹ ts) (x ∷ xs) h = (term_fits t x h.0, kids_fit ts xs h.1)

  row_fits : (ts : List Tree) (sorts : List Sort) → HaveSorts shapes vars ts sorts → HaveSorts (shapes ++ new) vars ts sorts
  row_fits [] [] h = tt
  row_fits [] (x ∷ xs) h = absurd h
  row_fits (t ∷ ts) [] h = absurd h
  row_fits (t ∷ ts) (x ∷ xs) h = (term_fits t x h.0, row_fits ts xs h.1)

  premises_fit : (forms : List FormData) (ps : List Premise) → PremisesFit shapes forms vars ps → PremisesFit (shapes ++ new) forms vars ps
  premises_fit forms [] h = tt
  premises_fit forms (holds j ∷ ps) h = ((h.0.0, h.0.1, row_fits j.places (map (λ p. p.sort) h.0.0.places) h.0.2), premises_fit forms ps h.1)
  premises_fit forms (apart t u ∷ ps) h = ((h.0.0, term_fits t (Lex h.0.0) h.0.1, term_fits u (Lex h.0.0) h.0.2), premises_fit forms ps h.1)

pub rule_fits_more : (shapes new : List Shape) (forms : List FormData) (r : Rule) → RuleFits shapes forms r → RuleFits (shapes ++ new) forms r
rule_fits_more shapes new forms r h = (
  (h.0.0, h.0.1, row_fits shapes new r.sorts r.conclusion.places (map (λ p. p.sort) h.0.0.places) h.0.2),
  premises_fit shapes new r.sorts forms r.premises h.1,
)

module _ (shapes new : List Shape) (forms : List FormData) where
  good_more : (names : List (List ℕ)) (r : NamedRule) → IsGood shapes forms names r → IsGood (shapes ++ new) forms names r
  good_more names r g = record { few = g.few; fresh = g.fresh; fits = rule_fits_more shapes new forms r.rule g.fits; disciplined = g.disciplined; moded = g.moded }

  -- good rules are good with more shapes
  pub all_good_more : (names : List (List ℕ)) (rs : List NamedRule) → AllGood shapes forms names rs → AllGood (shapes ++ new) forms names rs
  all_good_more names [] h = tt
  all_good_more names (r ∷ rs) h = (good_more names r h.0, all_good_more (names ++ r.name ∷ []) rs h.1)

-- rules one after the other
abbrev named_in : List NamedRule → List (List ℕ)
named_in rs = map (λ r. r.name) rs

same_names : (rs : List RuleOf) → named_in (map named rs) ≡ names_of rs
same_names [] = refl
same_names (r ∷ rs) = ap (λ (ns : List (List ℕ)). r.name ∷ ns) (same_names rs)

module _ (shapes : List Shape) (forms : List FormData) where
  one_after : (names : List (List ℕ)) (r : NamedRule) (rs : List NamedRule) → (names ++ r.name ∷ []) ++ named_in rs ≡ names ++ named_in (r ∷ rs)
  one_after names r rs = append_assoc names (r.name ∷ []) (named_in rs)

  good_after : (names : List (List ℕ)) (rs more : List NamedRule) → AllGood shapes forms names rs → AllGood shapes forms (names ++ named_in rs) more → AllGood shapes forms names (rs ++ more)
  good_after names [] more h k = subst (λ (ns : List (List ℕ)). AllGood shapes forms ns more) (nothing_more names) k
  good_after names (r ∷ rs) more h k =
      (h.0, good_after (names ++ r.name ∷ []) rs more h.1 (subst (λ (ns : List (List ℕ)). AllGood shapes forms ns more) (sym (one_after names r rs)) k))

  breach_after : (names : List (List ℕ)) (rs more : List NamedRule) (e : RuleError) → AllGood shapes forms names rs → IsFirstBreach shapes forms (names ++ named_in rs) more e → IsFirstBreach shapes forms names (rs ++ more) e
  breach_after names [] more e h k = subst (λ (ns : List (List ℕ)). IsFirstBreach shapes forms ns more e) (nothing_more names) k
  breach_after names (r ∷ rs) more e h k =
      inr (h.0, breach_after (names ++ r.name ∷ []) rs more e h.1 (subst (λ (ns : List (List ℕ)). IsFirstBreach shapes forms ns more e) (sym (one_after names r rs)) k))

-- the names of rules that are those of two lists
pub names_joined : (all base more : List RuleOf) → map named all ≡ map named base ++ map named more → names_of all ≡ names_of base ++ names_of more
names_joined all base more e =
    sym (same_names all) ∙ ap named_in e ∙ map-append (λ r. r.name) (map named base) (map named more)
    ∙ (λ i. same_names base i ++ same_names more i)

counted : (rs : List RuleOf) → length (map named rs) ≡ length rs
counted [] = refl
counted (r ∷ rs) = ap suc (counted rs)

as_many : (rs ms : List RuleOf) → length (map named rs ++ map named ms) ≡ length rs + length ms
as_many [] ms = let same = counted ms in omega (arith, same)
as_many (r ∷ rs) ms = let again = as_many rs ms in omega (arith, again)

pub few_all : (rs ms : List RuleOf) → length rs + length ms ≤ 4096 → length (map named rs ++ map named ms) ≤ 4096
few_all rs ms h = subst (λ (n : ℕ). n ≤ 4096) (sym (as_many rs ms)) h

-- what is answered of more rules after those of a set
module _ (shapes new : List Shape) (forms : List FormData) (rs : List RuleOf) (more : List NamedRule) (good : IsRuleSet shapes forms (map named rs)) (few : length (map named rs ++ more) ≤ 4096) where
  kept : AllGood (shapes ++ new) forms [] (map named rs)
  kept = all_good_more shapes new forms [] (map named rs) good.1

  first : (e : RuleError) → IsFirstBreach (shapes ++ new) forms (names_of rs) more e → IsFirstBreach (shapes ++ new) forms [] (map named rs ++ more) e
  first e k = breach_after (shapes ++ new) forms [] (map named rs) more e kept
      (subst (λ (ns : List (List ℕ)). IsFirstBreach (shapes ++ new) forms ns more e) (sym (same_names rs)) k)

  admitted : (result : Result (Unit {0}) RuleError) → AreChecked (shapes ++ new) forms (names_of rs) more result → IsAdmitted (shapes ++ new) forms (map named rs ++ more) result
  admitted (Ok x) k = (
    few,
    good_after (shapes ++ new) forms [] (map named rs) more kept
        (subst (λ (ns : List (List ℕ)). AllGood (shapes ++ new) forms ns more) (sym (same_names rs)) k),
  )
  admitted (Err Memory) k = tt
  admitted (Err TooManyRules) k = absurd k
  admitted (Err (TooManyVars n)) k = (few, first (TooManyVars n) k)
  admitted (Err (SameRule n)) k = (few, first (SameRule n) k)
  admitted (Err (SortDiffers n)) k = (few, first (SortDiffers n) k)
  admitted (Err (Discipline n p q)) k = (few, first (Discipline n p q) k)
  admitted (Err (NotModed n v)) k = (few, first (NotModed n v) k)

  -- the same of equal shapes, forms and names
  pub admitted_as : (all : List Shape) (known : List FormData) (names : List (List ℕ)) → all ≡ shapes ++ new → known ≡ forms → names ≡ names_of rs → (result : Result (Unit {0}) RuleError) → AreChecked all known names more result → IsAdmitted all forms (map named rs ++ more) result
  admitted_as all known names a f n result k =
      subst (λ (ss : List Shape). IsAdmitted ss forms (map named rs ++ more) result) (sym a)
      (admitted result
      (subst (λ (ns : List (List ℕ)). AreChecked (shapes ++ new) forms ns more result) n
      (subst (λ (fs : List FormData). AreChecked (shapes ++ new) fs names more result) f
      (subst (λ (ss : List Shape). AreChecked ss known names more result) a k))))
