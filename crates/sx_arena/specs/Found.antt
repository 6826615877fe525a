-- Cells that are found by their shapes.
use Rattle.std.specs.Prelude.{◌≡◌, ℕ, ◌<◌, Bool, true, List, map, length, get_or}
use Rattle.std.specs.Prelude.{Option, Some, None}
use Rattle.sx_slots.specs.Mixed.{folded}
use Rattle.sx_arena.specs.declared.shape.Shape.{Shape}
use Rattle.sx_arena.specs.declared.shape.Shape.TheVariants.{Var}
use Rattle.sx_arena.specs.declared.arena.Cell.{Cell}
use Rattle.sx_arena.specs.Hashed.{hash_of}

abbrev pub cell_at : List Cell → ℕ → Cell
cell_at cs i = get_or cs i (record { shape = Var 0; depth = 0; size = 0 })

abbrev pub shape_at : List Cell → ℕ → Shape
shape_at cs i = (cell_at cs i).shape

-- the hashes of the cells' shapes
abbrev pub hashes_of : List Cell → List ℕ
hashes_of cs = map (λ c. folded (hash_of c.shape)) cs

-- the number of a cell whose shape is wanted, or None where no cell has such a shape
abbrev pub IsFind : (Shape → Bool) → List Cell → Option ℕ → Type 0
IsFind wanted cs None = (i : ℕ) → i < length cs → wanted (shape_at cs i) ≡ true → ⊥
IsFind wanted cs (Some i) = (i < length cs) × (wanted (shape_at cs i) ≡ true)
