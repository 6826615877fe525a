-- Tries that are taken from those that are left, and where events halt a walk.
use Rattle.std.specs.Prelude.{◌≡◌, ℕ, suc, ◌+◌, ◌≤◌, List, ◌∷◌, Bool, true, false, Some}
use Rattle.sx_arena.specs.Places.{IsLimit}
use Rattle.sx_derive.specs.Walk.{Cause, depth_spent, Event, try, stop, tries_then}
use Rattle.sx_derive.specs.declared.tasks.Ending.{Ending as EndingOf}
use Rattle.sx_derive.specs.declared.tasks.Ending.TheVariants.{
  Found,
  Passed,
  DepthSpent,
  Spent,
  Exhausted,
}

-- tries come first, by which fewer are left, and then the rest
abbrev pub AfterTries : {A : Type 0} → ℕ → ℕ → List (Event A) → List (Event A) → Type 0
AfterTries old new es rest = (n : ℕ) × (old ≡ n + new) × (es ≡ tries_then n rest)

-- the events begin with a stop, or with a try where none is left
abbrev pub HaltsWith : {A : Type 0} → ℕ → EndingOf → List (Event A) → Type 0
HaltsWith {A} left (Passed limit) es =
    (cause : Cause) × IsLimit (Some cause) (Some limit)
    × ((rest : List (Event A)) × (es ≡ stop cause ∷ rest))
HaltsWith {A} left DepthSpent es = (rest : List (Event A)) × (es ≡ stop depth_spent ∷ rest)
HaltsWith {A} left Spent es = (left ≡ 0) × ((rest : List (Event A)) × (es ≡ try ∷ rest))
HaltsWith left (Found head outs) es = ⊥
HaltsWith left Exhausted es = ⊥

-- the events halt the walk after some tries
abbrev pub HaltsAfter : {A : Type 0} → ℕ → ℕ → List (Event A) → EndingOf → Type 0
HaltsAfter {A} old new es ending =
    (here : List (Event A)) × AfterTries old new es here × HaltsWith new ending here

-- whether one try more than that many is taken; where there are not so many, none is left
abbrev pub AreTriesTaken : ℕ → ℕ → ℕ → Bool → Type 0
AreTriesTaken before old new true = old ≡ suc before + new
AreTriesTaken before old new false = (old ≤ before) × (new ≡ 0)
