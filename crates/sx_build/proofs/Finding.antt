-- The first of some texts that is the one wanted.
use Rattle.std.proofs.Common.{◌≡◌, ◌≢◌, ℕ, ◌+◌, ◌<◌, List, inl, inr, subst, arith, slice_index_or}
use Rattle.std.proofs.lemmas.Bool.{cases_lt}

-- none of so many texts is this one
abbrev pub NoneSo : List (List ℕ) → List ℕ → ℕ → Type 0
NoneSo names name i = (k : ℕ) → k < i → slice_index_or names k name ≢ name

pub none_next : (names : List (List ℕ)) (name : List ℕ) (i : ℕ) → NoneSo names name i →
    slice_index_or names i name ≢ name → NoneSo names name (i + 1)
none_next names name i before here k below same =
    elim (cases_lt k i) [
      | inl less ↦ before k less same
      | inr least ↦ here (subst (λ (n : ℕ). slice_index_or names n name ≡ name)
          (omega (arith, below, least)) same)
    ]
