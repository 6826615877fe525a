-- The typed syntax that an extension itself adds.
use Rattle.std.specs.Prelude.{◌≡◌, ℕ, ◌≤◌, ◌⊎◌, List, Some, slice_get}
use Rattle.sx_term.specs.declared.sort.Sort.TheVariants.{Typed}
use Rattle.sx_term.specs.Sorts.{Shape}
use Rattle.sx_term.specs.Tree.{Tree, Trees, node, lexeme, hole, none, ◌▹◌}

-- the label is that of a typed constructor, of those from the number on
abbrev pub IsOwnLabel : List Shape → (first : ℕ) → ℕ → Type 0
IsOwnLabel shapes first label = (first ≤ label) ×
    ((shape : Shape) × (slice_get shapes label ≡ Some shape) × ((k : ℕ) × (shape.sort ≡ Typed k)))

abbrev mutual
  -- such a constructor stands in the term
  pub HasOwn : List Shape → (first : ℕ) → Tree → Type 0
  HasOwn shapes first (node label kids) = IsOwnLabel shapes first label ⊎ HaveOwn shapes first kids
  HasOwn shapes first (lexeme kind text) = ⊥
  HasOwn shapes first (hole v) = ⊥

  -- it stands in one of the terms
  pub HaveOwn : List Shape → (first : ℕ) → Trees → Type 0
  HaveOwn shapes first none = ⊥
  HaveOwn shapes first (t ▹ ts) = HasOwn shapes first t ⊎ HaveOwn shapes first ts
