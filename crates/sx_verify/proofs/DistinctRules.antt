-- The names of the rules of a rule set are distinct.
use Rattle.std.proofs.Common.{◌≢◌, ℕ, List, [], ◌∷◌, ◌++◌, map, refl, inl, inr, subst}
use Rattle.std.specs.List.{AllByRecursion}
use Rattle.sx_term.specs.Sorts.{Shape}
use Rattle.sx_rules.specs.Good.{IsAmong, AllGood}
use Rattle.sx_rules.specs.RuleNames.{AreNamesDistinct}
use Rattle.sx_rules.specs.Views.{FormData, NamedRule}

module _ (shapes : List Shape) (forms : List FormData) where
  -- a name among the first names is no rule's
  among_front : (name : List ℕ) (names more : List (List ℕ)) → IsAmong name names →
      IsAmong name (names ++ more)
  among_front name [] more among = absurd among
  among_front name (n ∷ names) more (inl same) = inl same
  among_front name (n ∷ names) more (inr among) = inr (among_front name names more among)

  among_end : (name : List ℕ) (names : List (List ℕ)) → IsAmong name (names ++ name ∷ [])
  among_end name [] = inl refl
  among_end name (n ∷ names) = inr (among_end name names)

  fresh_names : (name : List ℕ) (names : List (List ℕ)) (rs : List NamedRule) →
      IsAmong name names → AllGood shapes forms names rs →
      AllByRecursion (λ y. name ≢ y) (map (λ r. r.name) rs)
  fresh_names name names [] among good = tt
  fresh_names name names (r ∷ rs) among good = (
    λ same. good.0.fresh (subst (λ (n : List ℕ). IsAmong n names) same among),
    fresh_names name (names ++ r.name ∷ []) rs (among_front name names (r.name ∷ []) among)
        good.1,
  )

  pub all_distinct : (names : List (List ℕ)) (rs : List NamedRule) →
      AllGood shapes forms names rs → AreNamesDistinct (map (λ r. r.name) rs)
  all_distinct names [] good = tt
  all_distinct names (r ∷ rs) good = (
    fresh_names r.name (names ++ r.name ∷ []) rs (among_end r.name names) good.1,
    all_distinct (names ++ r.name ∷ []) rs good.1,
  )
