-- Names and their numbers.
use Rattle.std.proofs.Common.{◌≡◌, ℕ, zero, suc, ◌<◌, List, [], ◌∷◌, length, Some, None, inl, inr, sym, ap, ◌∙◌, arith}
use Rattle.std.specs.Prelude.{slice_get, Contains}
use Rattle.std.proofs.lemmas.Bool.{cases_lt}
use Rattle.std.proofs.lemmas.Option.{slice_get-get_or, slice_get_within, get_or_from_slice_get}
use Rattle.sx_lines.specs.Distinct.{AreTextsDistinct}

pub contains_at : (names : List (List ℕ)) (n : ℕ) (name : List ℕ) → slice_get names n ≡ Some name → Contains names name
contains_at names n name e = (n, slice_get_within names n name e, get_or_from_slice_get names n name name e)

pub place_of : (names : List (List ℕ)) (name : List ℕ) → Contains names name → (n : ℕ) × (n < length names) × (slice_get names n ≡ Some name)
place_of names name (n, lt, is) = (n, lt, slice_get-get_or names n name lt ∙ ap Some is)

pub below_distinct : (names : List (List ℕ)) → AreTextsDistinct names → (i j : ℕ) (name : List ℕ) → i < j → slice_get names i ≡ Some name → slice_get names j ≡ Some name → ⊥
below_distinct [] h i j name lt a b = let q : None ≡ Some name = a in cc
below_distinct (x ∷ names) h zero zero name lt a b = absurd (omega arith)
below_distinct (x ∷ names) h zero (suc j) name lt a b =
    let q : Some x ≡ Some name = a in
    let e : x ≡ name = cc in
    h.0 (contains_at names j x (b ∙ ap Some (sym e)))
below_distinct (x ∷ names) h (suc i) zero name lt a b = absurd (omega arith)
below_distinct (x ∷ names) h (suc i) (suc j) name lt a b = below_distinct names h.1 i j name (omega arith) a b

-- a name stands at one place only
pub one_place : (names : List (List ℕ)) → AreTextsDistinct names → (i j : ℕ) (name : List ℕ) → slice_get names i ≡ Some name → slice_get names j ≡ Some name → i ≡ j
one_place names h i j name a b =
    elim (cases_lt i j) [
      | inl below ↦ absurd (below_distinct names h i j name below a b)
      | inr above ↦ elim (cases_lt j i) [
        | inl below ↦ absurd (below_distinct names h j i name below b a)
        | inr over ↦ omega arith
      ]
    ]
