-- What a rule set keeps holds as it stands.
use Rattle.std.proofs.Common.{◌≡◌, ◌≢◌, ℕ, ◌<◌, ◌≤◌, length, map, List, [], ◌∷◌, ◌++◌, ◌⊎◌, inl, inr, arith, Some, refl, ap, sym, ◌∙◌, subst}
use Rattle.std.specs.Prelude.{slice_get}
use Rattle.std.specs.List.{AllByRecursion}
use Rattle.std.proofs.lemmas.Option.{slice_get_within}
use Rattle.std.proofs.lemmas.List.{length-map}
use mathlib.Core.Logic.{∥∥₁_elim}
use Rattle.sx_term.specs.Tree.{Tree, depth_of}
use Rattle.sx_term.specs.Sorts.{Shape}
use Rattle.sx_rules.specs.declared.rule.Rule.{Rule as RuleOf}
use Rattle.sx_rules.specs.Rules.{Premise, holds, apart, Rule}
use Rattle.sx_rules.specs.Modes.{AllModed}
use Rattle.sx_rules.specs.Sorts.{RulesAreSorted}
use Rattle.sx_rules.specs.Deep.{AreShallow, PremiseIsShallow, PremisesAreShallow, RulesAreShallow}
use Rattle.sx_rules.specs.Views.{FormData, NamedRule, named, rule, modes_of, sorts_of}
use Rattle.sx_rules.specs.Good.{IsAmong, AllGood, IsRuleSet, names_of}
use Rattle.sx_rules.specs.RuleNames.{AreNamesDistinct}
use Rattle.sx_rules.proofs.SetLaws.{good_no_breach, fitting_sorted}
use Rattle.sx_rules.proofs.Decided.{no_breach_good}

-- the fact is not refuted
abbrev Unrefuted : Type 0 → Type 0
Unrefuted P = (P → ⊥) → ⊥

unrefuted : {P : Type 0} → ∥ P ∥₁ → Unrefuted P
unrefuted t n = ∥∥₁_elim t (λ x y. absurd x) n

at_most : (n limit : ℕ) → Unrefuted (n ≤ limit) → n ≤ limit
at_most n limit h = go (cases n limit)
  where
    cases : (a b : ℕ) → (b < a) ⊎ (a ≤ b)
    cases a b = grind arith

    go : (limit < n) ⊎ (n ≤ limit) → n ≤ limit
    go (inl more) = absurd (h (λ few. omega (arith, few, more)))
    go (inr few) = few

module _ (S : List Shape) (F : List FormData) where
  all_good : (names : List (List ℕ)) (rs : List NamedRule) → Unrefuted (AllGood S F names rs) → AllGood S F names rs
  all_good names [] h = tt
  all_good names (r ∷ rs) h = (
    no_breach_good S F names r (λ e b. h (λ g. good_no_breach S F names r e g.0 b)),
    all_good (names ++ r.name ∷ []) rs (λ n. h (λ g. n g.1)),
  )

  pub kept_good : (rs : List NamedRule) → ∥ IsRuleSet S F rs ∥₁ → IsRuleSet S F rs
  kept_good rs t = (
    at_most (length rs) 4096 (λ n. unrefuted t (λ g. n g.0)),
    all_good [] rs (λ n. unrefuted t (λ g. n g.1)),
  )

  all_moded : (names : List (List ℕ)) (rs : List RuleOf) → AllGood S F names (map named rs) → AllModed (modes_of F) (map rule rs)
  all_moded names [] h = tt
  all_moded names (r ∷ rs) h = (h.0.moded, all_moded (names ++ r.name ∷ []) rs h.1)

  all_sorted : (names : List (List ℕ)) (rs : List RuleOf) → AllGood S F names (map named rs) → RulesAreSorted S (sorts_of F) (map rule rs)
  all_sorted names [] h = tt
  all_sorted names (r ∷ rs) h = (fitting_sorted S F (rule r) h.0.fits, all_sorted (names ++ r.name ∷ []) rs h.1)

  pub kept_moded : (rs : List RuleOf) → ∥ IsRuleSet S F (map named rs) ∥₁ → AllModed (modes_of F) (map rule rs)
  kept_moded rs t = all_moded [] rs (kept_good (map named rs) t).1

  pub kept_sorted : (rs : List RuleOf) → ∥ IsRuleSet S F (map named rs) ∥₁ → RulesAreSorted S (sorts_of F) (map rule rs)
  kept_sorted rs t = all_sorted [] rs (kept_good (map named rs) t).1

  -- the number of a rule is less than 4,096
  pub number_within : (rs : List RuleOf) (n : ℕ) (name : List ℕ) → ∥ IsRuleSet S F (map named rs) ∥₁ → slice_get (names_of rs) n ≡ Some name → n < 4096
  number_within rs n name t e =
      let inside = slice_get_within (names_of rs) n name e in
      let few = (kept_good (map named rs) t).0 in
      omega (arith, inside, few, length-map rs (λ r. r.name), length-map rs named)

terms_shallow : (ts : List Tree) → Unrefuted (AreShallow ts) → AreShallow ts
terms_shallow [] h = tt
terms_shallow (t ∷ ts) h = (at_most (depth_of t) 1000 (λ n. h (λ s. n s.0)), terms_shallow ts (λ n. h (λ s. n s.1)))

premise_shallow : (p : Premise) → Unrefuted (PremiseIsShallow p) → PremiseIsShallow p
premise_shallow (holds j) h = terms_shallow j.places h
premise_shallow (apart t u) h = (at_most (depth_of t) 1000 (λ n. h (λ s. n s.0)), at_most (depth_of u) 1000 (λ n. h (λ s. n s.1)))

premises_shallow : (ps : List Premise) → Unrefuted (PremisesAreShallow ps) → PremisesAreShallow ps
premises_shallow [] h = tt
premises_shallow (p ∷ ps) h = (premise_shallow p (λ n. h (λ s. n s.0)), premises_shallow ps (λ n. h (λ s. n s.1)))

rules_shallow : (rs : List Rule) → Unrefuted (RulesAreShallow rs) → RulesAreShallow rs
rules_shallow [] h = tt
rules_shallow (r ∷ rs) h = (
  (terms_shallow r.conclusion.places (λ n. h (λ s. n s.0.0)), premises_shallow r.premises (λ n. h (λ s. n s.0.1))),
  rules_shallow rs (λ n. h (λ s. n s.1)),
)

pub kept_shallow : (rs : List Rule) → ∥ RulesAreShallow rs ∥₁ → RulesAreShallow rs
kept_shallow rs t = rules_shallow rs (unrefuted t)

map_named : (xs : List RuleOf) → map (λ n. n.rule) (map named xs) ≡ map rule xs
map_named [] = refl
map_named (x ∷ xs) = ap (λ ys. rule x ∷ ys) (map_named xs)

append_shallow : (xs ys : List RuleOf) → RulesAreShallow (map rule xs) → RulesAreShallow (map rule ys) → RulesAreShallow (map rule (xs ++ ys))
append_shallow [] ys h k = k
append_shallow (x ∷ xs) ys h k = (h.0, append_shallow xs ys h.1 k)

-- copies of shallow rules with more shallow rules are shallow
pub shallow_joined : (base copies more all : List RuleOf) → all ≡ copies ++ more → map named copies ≡ map named base →
    RulesAreShallow (map rule base) → RulesAreShallow (map rule more) → RulesAreShallow (map rule all)
shallow_joined base copies more all e same h k =
    let copied : map rule copies ≡ map rule base = sym (map_named copies) ∙ ap (λ ns. map (λ n. n.rule) ns) same ∙ map_named base in
    subst (λ rs. RulesAreShallow (map rule rs)) (sym e) (append_shallow copies more (subst RulesAreShallow (sym copied) h) k)

-- no name of a rule set stands twice
among_left : (names : List (List ℕ)) (x y : List ℕ) → IsAmong x names → IsAmong x (names ++ y ∷ [])
among_left [] x y h = absurd h
among_left (n ∷ names) x y (inl e) = inl e
among_left (n ∷ names) x y (inr h) = inr (among_left names x y h)

among_last : (names : List (List ℕ)) (y : List ℕ) → IsAmong y (names ++ y ∷ [])
among_last [] y = inl refl
among_last (n ∷ names) y = inr (among_last names y)

module _ (S : List Shape) (F : List FormData) where
  later_differ : (names : List (List ℕ)) (rs : List RuleOf) (x : List ℕ) → IsAmong x names → AllGood S F names (map named rs) → AllByRecursion (λ y. x ≢ y) (names_of rs)
  later_differ names [] x k h = tt
  later_differ names (r ∷ rs) x k h = (
    (λ e. h.0.fresh (subst (λ y. IsAmong y names) e k)),
    later_differ (names ++ r.name ∷ []) rs x (among_left names x r.name k) h.1,
  )

  all_distinct : (names : List (List ℕ)) (rs : List RuleOf) → AllGood S F names (map named rs) → AreNamesDistinct (names_of rs)
  all_distinct names [] h = tt
  all_distinct names (r ∷ rs) h = (
    later_differ (names ++ r.name ∷ []) rs r.name (among_last names r.name) h.1,
    all_distinct (names ++ r.name ∷ []) rs h.1,
  )

  pub kept_distinct : (rs : List RuleOf) → ∥ IsRuleSet S F (map named rs) ∥₁ → AreNamesDistinct (names_of rs)
  kept_distinct rs t = all_distinct [] rs (kept_good S F (map named rs) t).1
