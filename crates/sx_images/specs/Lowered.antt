-- What lowering a term of an arena answers.
use Rattle.std.specs.Prelude.{◌≡◌, ℕ, ◌-◌, ◌^◌, ◌<◌, ◌≤◌, min, Result, Ok, Err}
use Rattle.sx_term.specs.Tree.{Tree, depth_of, size_of}
use Rattle.sx_term.specs.declared.term_error.TermError.{TermError}
use Rattle.sx_term.specs.declared.term_error.TermError.TheVariants.{Memory, TooDeep, TooBig}
use Rattle.sx_plain.specs.Plain.{Table, image}
use Rattle.sx_arena.specs.declared.arena.Arena.{Arena}
use Rattle.sx_arena.specs.Arena.{trees, IsArena, IsHeld}
use Rattle.sx_images.specs.declared.images.Images.{Images}
use Rattle.sx_images.specs.Images.{AreImages}
use Rattle.sx_term.specs.Limits.{most_depth, most_size}

-- the arena has the terms that it had
pub record IsSameArena (old new : Arena) : Type 0 where
  pub arena : IsArena new
  pub same : trees new ≡ trees old

-- the plain image of the term stands in the arena at the number, within the limits, or this is the
-- first limit that it passes
abbrev pub IsLowered : Table → Arena → Arena → Images → Tree → Result ℕ TermError → Type 0
IsLowered table old new images t (Ok i) =
    IsHeld old new i (image table t) × AreImages table (trees new) images ×
    (depth_of (image table t) ≤ most_depth) × (size_of (image table t) ≤ most_size)
IsLowered table old new images t (Err (TooDeep depth)) =
    IsSameArena old new × AreImages table (trees old) images ×
    (most_depth < depth_of (image table t)) ×
    (depth ≡ depth_of (image table t))
IsLowered table old new images t (Err (TooBig nodes)) =
    IsSameArena old new × AreImages table (trees old) images ×
    (depth_of (image table t) ≤ most_depth) ×
    (most_size < size_of (image table t))
    × (nodes ≡ min (size_of (image table t)) (2 ^ 64 - 1))
IsLowered table old new images t (Err Memory) = Unit {0}
