use Rattle.std.proofs.Common.{length}
use Rattle.sx_lines.specs.Left.{left as left_of}
use Rattle.sx_lines.specs.Reading.{kept}
use Rattle.sx_core.proofs.FindLaws.{Finding}
use Rattle.sx_core.proofs.sort_reading.find_sorts.Given as goal

abbrev pub invariant-lines : goal.invariant-lines
invariant-lines l = Finding (kept (left_of l.fn.rest)) l.table (kept (left_of l.left))

abbrev pub decreases-lines : goal.decreases-lines
decreases-lines l = length l.left.bytes.now
