-- What is known of plain images, by the numbers of the terms.
use Rattle.std.specs.Prelude.{◌≡◌, ℕ, ◌+◌, ◌-◌, ◌^◌, ◌*◌, ◌<◌, ◌≤◌, List, length, min, get_or}
use Rattle.std.specs.Prelude.{Option, Some, None, if◌then◌else◌, ◌==◌}
use Rattle.sx_term.specs.Limits.{most_depth}
use Rattle.sx_term.specs.Tree.{Tree, depth_of, size_of}
use Rattle.sx_plain.specs.declared.measure.Measure.{Measure}
use Rattle.sx_plain.specs.Plain.{Table, image}
use Rattle.sx_arena.specs.Arena.{tree_at}
use Rattle.sx_images.specs.declared.images.Images.{Images}

-- what is noted at the number, if anything is
abbrev pub noted_at : {N : Type 0} → List (Option N) → ℕ → Option N
noted_at notes i = get_or notes i None

-- with the value noted at the number
abbrev pub with_note : {N : Type 0} → (ℕ → Option N) → ℕ → N → ℕ → Option N
with_note notes number value i = if i == number then Some value else notes i

-- how deep and how big the plain image of the term is; the size stays at the greatest number where
-- it is more
pub record IsMeasure (table : Table) (t : Tree) (m : Measure) : Type 0 where
  pub depth : m.depth ≡ depth_of (image table t)
  pub small : m.depth ≤ (most_depth + 1) * depth_of t
  pub size : m.size ≡ min (size_of (image table t)) (2 ^ 64 - 1)

-- the term stands at the number, and its plain image has the measure
pub record IsMeasureAt (table : Table) (ts : List Tree) (i : ℕ) (m : Measure) : Type 0 where
  pub within : i < length ts
  pub measure : IsMeasure table (tree_at ts i) m

-- the term stands at the one number, and its plain image at the other
pub record IsImageAt (table : Table) (ts : List Tree) (i j : ℕ) : Type 0 where
  pub within : i < length ts
  pub stands : j < length ts
  pub is : tree_at ts j ≡ image table (tree_at ts i)

-- each measure that is noted is that of the plain image
abbrev pub AreMeasured : Table → List Tree → List (Option Measure) → Type 0
AreMeasured table ts notes = (i : ℕ) (m : Measure) → noted_at notes i ≡ Some m →
    IsMeasureAt table ts i m

-- each number that is noted is that of the plain image
abbrev pub AreImagesNoted : Table → List Tree → List (Option ℕ) → Type 0
AreImagesNoted table ts notes = (i j : ℕ) → noted_at notes i ≡ Some j → IsImageAt table ts i j

-- what is known is so of the plain images by this table
pub record AreImages (table : Table) (ts : List Tree) (images : Images) : Type 0 where
  pub measures : AreMeasured table ts images.measures.items
  pub numbers : AreImagesNoted table ts images.numbers.items
