-- Numbers that lead on to others.
use Rattle.std.specs.Prelude.{◌≡◌, ℕ, ◌+◌, ◌<◌, ◌≤◌, List, [], ◌∷◌, length, get_or}

-- at the number stands the one that is so much more, and so on from there
abbrev pub AreSteps : List ℕ → ℕ → List ℕ → Type 0
AreSteps ends i [] = Unit {0}
AreSteps ends i (n ∷ ns) =
    (i < length ends) × (get_or ends i 0 ≡ i + n) × AreSteps ends (i + n) ns

-- none of the numbers is below the first
abbrev pub AreNotBelow : ℕ → List ℕ → Type 0
AreNotBelow first [] = Unit {0}
AreNotBelow first (i ∷ is) = (first ≤ i) × AreNotBelow first is
