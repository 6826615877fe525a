-- The terms of an arena as plain data.
use Rattle.std.specs.Prelude.{◌≡◌, ℕ, ◌-◌, ◌^◌, ◌<◌, List, [], ◌∷◌, map, length, min, get_or}
use Rattle.std.specs.Prelude.{Option, Some, None, string_bytes}
use Rattle.sx_term.specs.Tree.{Tree, node, lexeme, hole, none, forest, depth_of, size_of}
use Rattle.sx_arena.specs.declared.shape.Shape.{Shape}
use Rattle.sx_arena.specs.declared.shape.Shape.TheVariants.{Node, Lex, Var}
use Rattle.sx_arena.specs.declared.arena.Cell.{Cell}
use Rattle.sx_arena.specs.declared.arena.Arena.{Arena}
use Rattle.sx_arena.specs.Grown.{grown_from, CellsFit}
pub use Rattle.sx_arena.specs.Grown.{Extends}
pub use Rattle.smallvec.specs.SmallVec.{SmallVec}

abbrev pub tree_at : List Tree → ℕ → Tree
tree_at ts i = get_or ts i (node 0 none)

abbrev pub shape_tree : List Tree → Shape → Tree
shape_tree ts (Node label kids) = node label (forest (map (tree_at ts) kids.items))
shape_tree ts (Lex kind text) = lexeme kind (string_bytes text)
shape_tree ts (Var v) = hole v

-- all numbers are below n
abbrev pub AreBelow : ℕ → List ℕ → Type 0
AreBelow n [] = Unit {0}
AreBelow n (i ∷ is) = (i < n) × AreBelow n is

abbrev pub KidsBelow : ℕ → Shape → Type 0
KidsBelow n (Node label kids) = AreBelow n kids.items
KidsBelow n (Lex kind text) = Unit {0}
KidsBelow n (Var v) = Unit {0}

abbrev pub cell_tree : List Tree → Cell → Tree
cell_tree ts c = shape_tree ts c.shape

-- a cell that may stand after these terms, if it is none of them
pub record IsCell (ts : List Tree) (c : Cell) : Type 0 where
  pub kids : KidsBelow (length ts) c.shape
  pub depth : c.depth ≡ min (depth_of (cell_tree ts c)) (2 ^ 64 - 1)
  pub size : c.size ≡ min (size_of (cell_tree ts c)) (2 ^ 64 - 1)

pub record IsNewCell (ts : List Tree) (c : Cell) : Type 0 where
  pub cell : IsCell ts c
  pub new : (i : ℕ) → i < length ts → tree_at ts i ≡ cell_tree ts c → ⊥

abbrev pub cell_trees : List Cell → List Tree
cell_trees cs = grown_from cell_tree [] cs

-- the terms, by their numbers
abbrev pub trees : Arena → List Tree
trees a = cell_trees a.cells

-- each cell refers to earlier ones, and no two terms are equal
abbrev pub IsArena : Arena → Type 0
IsArena a = CellsFit cell_tree IsNewCell [] a.cells

-- the cell stands at the number
pub record IsCellRead (ts : List Tree) (i : ℕ) (c : Cell) : Type 0 where
  pub cell : IsCell ts c
  pub tree : tree_at ts i ≡ cell_tree ts c

-- the number of the term, or None where it is none of the terms
abbrev pub IsTermPlace : List Tree → Tree → Option ℕ → Type 0
IsTermPlace ts t None = (i : ℕ) → i < length ts → tree_at ts i ≡ t → ⊥
IsTermPlace ts t (Some i) = (i < length ts) × (tree_at ts i ≡ t)

-- the arena goes on from the other, and has the term at the number
pub record IsHeld (old new : Arena) (i : ℕ) (t : Tree) : Type 0 where
  pub arena : IsArena new
  pub extends : Extends (trees old) (trees new)
  pub within : i < length (trees new)
  pub is : tree_at (trees new) i ≡ t
