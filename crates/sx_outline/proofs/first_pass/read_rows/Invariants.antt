use Rattle.std.proofs.Common.{length}
use Rattle.sx_lines.specs.Left.{left}
use Rattle.sx_outline.specs.Known.{kept_lines}
use Rattle.sx_outline.specs.Tables.{declared_in}
use Rattle.sx_outline.proofs.PassLaws.{Standing}
use Rattle.sx_outline.proofs.first_pass.read_rows.Given as goal

abbrev pub invariant-lines : goal.invariant-lines
invariant-lines l =
    Standing l.kind (declared_in l.fn.rows) (kept_lines (left l.fn.lines)) (declared_in l.found) (kept_lines (left l.left))

abbrev pub decreases-lines : goal.decreases-lines
decreases-lines l = length l.left.bytes.now
