-- Terms that are kept where an arena is cut.
use Rattle.std.specs.Prelude.{◌≡◌, ℕ, List, map, take, length}
use Rattle.sx_arena.specs.declared.arena.Arena.{Arena}
use Rattle.sx_arena.specs.Arena.{trees, tree_at, IsArena, AreBelow, Extends}

-- the first terms stay, so many, and the terms that stood at the numbers stand at others
pub record AreKeptIn (first : ℕ) (old new : Arena) (numbers others : List ℕ) : Type 0 where
  pub arena : IsArena new
  pub kept : Extends (take first (trees old)) (trees new)
  pub within : AreBelow (length (trees new)) others
  pub are : map (tree_at (trees new)) others ≡ map (tree_at (trees old)) numbers
