use Rattle.std.proofs.Common.{length}
use Rattle.sx_lines.specs.Left.{left as left_of}
use Rattle.sx_lines.specs.Reading.{kept}
use Rattle.sx_core.specs.Resolving.{rows_in}
use Rattle.sx_core.proofs.LoopLaws.{Standing}
use Rattle.sx_core.proofs.core_lines.read_rows.Given as goal

abbrev pub invariant-lines : goal.invariant-lines
invariant-lines l = Standing (rows_in l.fn.sorts) (kept (left_of l.fn.rest)) l.reader (kept (left_of l.left))

abbrev pub decreases-lines : goal.decreases-lines
decreases-lines l = length l.left.bytes.now
