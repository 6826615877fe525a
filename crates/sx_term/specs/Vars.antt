-- Names of variables.
use Rattle.std.specs.Prelude.{◌≡◌, ◌==◌, ℕ, ◌⊎◌, List, [], ◌∷◌, ◌++◌, Some, slice_get, Contains}
use Rattle.std.specs.Prelude.{if◌then◌else◌}

-- the text behind a `~` at its front, or all of a text without one
abbrev pub without_tilde : List ℕ → List ℕ
without_tilde [] = []
without_tilde (c ∷ cs) = if c == 126 then cs else c ∷ cs

-- the name has this number in the new list: the old list where the name is in it, and else the old
-- list with the name added last
pub record IsAdded (old new : List (List ℕ)) (name : List ℕ) (number : ℕ) : Type 0 where
  pub numbered : slice_get new number ≡ Some name
  pub list : (Contains old name × (new ≡ old)) ⊎ (¬ (Contains old name) × (new ≡ old ++ name ∷ []))
