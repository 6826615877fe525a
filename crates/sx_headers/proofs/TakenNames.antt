-- The first of some names that is a literal.
use Rattle.std.proofs.Common.{◌≡◌, ℕ, zero, suc, ◌+◌, ◌<◌, ◌≤◌, List, [], ◌∷◌, ◌++◌, length, take}
use Rattle.std.proofs.Common.{drop, get_or, refl, sym, ap, subst, arith}
use Rattle.std.specs.Prelude.{Contains, Some, slice_get}
use Rattle.std.proofs.lemmas.Option.{slice_get_within, get_or_from_slice_get}
use Rattle.sx_interface.specs.FreeNames.{AreFree}
use Rattle.sx_headers.specs.FreeImports.{IsTakenAt}

module _ (literals : List (List ℕ)) where
  pub free_next : (names : List (List ℕ)) (i : ℕ) (name : List ℕ) → i < length names →
      name ≡ get_or names i name →
      AreFree literals (take i names) → ¬ (Contains literals name) →
      AreFree literals (take (i + 1) names)
  free_next [] i name lt is free here = absurd (omega (arith, lt))
  free_next (n ∷ names) zero name lt is free here =
      (subst (λ (x : List ℕ). ¬ (Contains literals x)) is here, tt)
  free_next (n ∷ names) (suc i) name lt is free here =
      let next : suc i + 1 ≡ suc (i + 1) = omega arith in
      rw next (free.0, free_next names i name (omega (arith, lt)) is free.1 here)

  pub free_whole : (names : List (List ℕ)) (i : ℕ) → length names ≤ i →
      AreFree literals (take i names) → AreFree literals names
  free_whole [] i le free = tt
  free_whole (n ∷ names) zero le free = absurd (omega (arith, le))
  free_whole (n ∷ names) (suc i) le free = (free.0, free_whole names i (omega (arith, le)) free.1)

  split : (names : List (List ℕ)) (i : ℕ) (name : List ℕ) → i < length names →
      name ≡ get_or names i name →
      (names ≡ take i names ++ name ∷ drop (i + 1) names) × (length (take i names) ≡ i)
  split [] i name lt is = absurd (omega (arith, lt))
  split (n ∷ names) zero name lt is = (ap (λ (x : List ℕ). x ∷ names) (sym is), refl)
  split (n ∷ names) (suc i) name lt is =
      let rest = split names i name (omega (arith, lt)) is in
      let next : suc i + 1 ≡ suc (i + 1) = omega arith in
      rw next (ap (λ (x : List (List ℕ)). n ∷ x) rest.0, ap suc rest.1)

  pub taken_here : (names : List (List ℕ)) (i : ℕ) (name : List ℕ) → i < length names →
      name ≡ get_or names i name →
      AreFree literals (take i names) → (place : ℕ) → slice_get literals place ≡ Some name →
      IsTakenAt literals names i
  taken_here names i name lt is free place at =
      let parts = split names i name lt is in (
        name,
        record {
          front = take i names;
          rest = drop (i + 1) names;
          is = parts.0;
          free = free;
          literal = (
            place,
            slice_get_within literals place name at,
            get_or_from_slice_get literals place name name at,
          );
        },
        sym parts.1,
      )
