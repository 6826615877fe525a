-- How the files of a plan are written.
use Rattle.std.specs.Prelude.{◌≡◌, ℕ, ◌<◌, List, take}
use Rattle.sx_outside.specs.Files.{Files, File, after_writes, SameBut}
use Rattle.sx_top.specs.Course.{name_at}
use Rattle.sx_top.specs.declared.perform.WriteEnd.{WriteEnd}
use Rattle.sx_top.specs.declared.perform.WriteEnd.TheVariants as write_ends

-- what stands on the shelf after the writes; a file whose write failed may hold anything
abbrev pub Wrote : List File → WriteEnd → Files → Files → Type 0
Wrote outputs write_ends.All old new = new ≡ after_writes outputs old
Wrote outputs (write_ends.Failed number) old new =
    SameBut (name_at outputs number) (after_writes (take number outputs) old) new
Wrote outputs (write_ends.NoMemory number) old new = new ≡ after_writes (take number outputs) old

-- a write failed
abbrev pub IsFailed : WriteEnd → Type 0
IsFailed write_ends.All = ⊥
IsFailed (write_ends.Failed number) = Unit {0}
IsFailed (write_ends.NoMemory number) = ⊥

-- the number of the file that was not written is below the count
abbrev pub IsUnwrittenBelow : ℕ → WriteEnd → Type 0
IsUnwrittenBelow count write_ends.All = Unit {0}
IsUnwrittenBelow count (write_ends.Failed number) = number < count
IsUnwrittenBelow count (write_ends.NoMemory number) = number < count
