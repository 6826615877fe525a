use Rattle.std.proofs.Common.{length}
use Rattle.sx_lines.specs.Left.{left}
use Rattle.sx_outline.specs.Known.{kept_lines}
use Rattle.sx_outline.specs.View as view
use Rattle.sx_outline.proofs.ReadLaws.{IsReading}
use Rattle.sx_outline.proofs.reading.read_lines.Given as goal

abbrev pub invariant-lines : goal.invariant-lines
invariant-lines l = IsReading l.kind (view.known l.known) l.name l.fn.reader (kept_lines (left l.fn.lines)) l.reader (kept_lines (left l.left)) l.left.bytes.now

abbrev pub decreases-lines : goal.decreases-lines
decreases-lines l = length l.left.bytes.now
