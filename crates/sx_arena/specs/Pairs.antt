-- Pairs of terms that are given to be apart.
use Rattle.std.specs.Prelude.{◌≡◌, Bool, ℕ, ◌<◌, List, [], ◌∷◌, map}
use Rattle.sx_term.specs.Tree.{Tree}
use Rattle.sx_arena.specs.declared.pairs.Pair.{Pair}
use Rattle.sx_arena.specs.declared.arena.Arena.{Arena}
use Rattle.sx_arena.specs.Arena.{trees, tree_at, IsArena, Extends}

abbrev pub entered_pair : List Tree → Pair → Tree × Tree
entered_pair ts p = (tree_at ts p.first, tree_at ts p.second)

abbrev pub pairs_of : List Tree → List Pair → List (Tree × Tree)
pairs_of ts ps = map (entered_pair ts) ps

abbrev pub ArePairs : ℕ → List Pair → Type 0
ArePairs n [] = Unit {0}
ArePairs n (p ∷ ps) = ((p.first < n) × (p.second < n)) × ArePairs n ps

-- the arena goes on from the other, and the one truth value is the other
pub record IsTruthTold (old new : Arena) (b r : Bool) : Type 0 where
  pub arena : IsArena new
  pub extends : Extends (trees old) (trees new)
  pub is : b ≡ r
