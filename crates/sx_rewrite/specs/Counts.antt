-- The size of a lowered node, by what its certificate does with each given.
use Rattle.std.specs.Prelude.{ℕ, ◌+◌, ◌*◌, max, Bool, List, [], ◌∷◌, if◌then◌else◌}
use Rattle.sx_rules.specs.Derivations.{Proof, Proofs, by, given, no_more, ◌⊳◌}
use Rattle.sx_rewrite.specs.Measured.{is_used}

-- how many nodes a proof has, its givens not among them
abbrev mutual
  pub own_nodes : Proof → ℕ
  own_nodes (by r binds kids) = own_nodes_of kids + 1
  own_nodes (given i) = 0

  -- in all
  pub own_nodes_of : Proofs → ℕ
  own_nodes_of no_more = 0
  own_nodes_of (p ⊳ ps) = own_nodes p + own_nodes_of ps

-- how deep it is without its givens
abbrev mutual
  pub own_height : Proof → ℕ
  own_height (by r binds kids) = own_height_of kids + 1
  own_height (given i) = 0

  -- the greatest
  pub own_height_of : Proofs → ℕ
  own_height_of no_more = 0
  own_height_of (p ⊳ ps) = max (own_height p) (own_height_of ps)

-- how many nodes stand above the deepest place of the given i, which stands in the proof
abbrev mutual
  pub nodes_above : ℕ → Proof → ℕ
  nodes_above i (by r binds kids) = nodes_above_in i kids + 1
  nodes_above i (given j) = 0

  -- the most, of the proofs in which it stands
  pub nodes_above_in : ℕ → Proofs → ℕ
  nodes_above_in i no_more = 0
  nodes_above_in i (p ⊳ ps) =
      max (if is_used i p then nodes_above i p else 0) (nodes_above_in i ps)

-- the sum of the numbers, counted from i, each as often as it stands
abbrev pub sum_of : (ℕ → ℕ) → ℕ → List ℕ → ℕ
sum_of times i [] = 0
sum_of times i (n ∷ ns) = times i * n + sum_of times (i + 1) ns

-- the greatest of the numbers, counted from i, that stand, each with what is above it
abbrev pub most_of : (ℕ → Bool) → (ℕ → ℕ) → ℕ → List ℕ → ℕ
most_of stands above i [] = 0
most_of stands above i (h ∷ hs) =
    max (if stands i then above i + h else 0) (most_of stands above (i + 1) hs)
