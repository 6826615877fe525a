use Rattle.std.proofs.Common.{length}
use Rattle.std.specs.Str.{IsUtf8}
use Rattle.sx_lines.specs.Left.{left}
use Rattle.sx_outline.specs.Known.{kept_lines}
use Rattle.sx_outline.specs.HeaderReading.{AreUsesFound}
use Rattle.sx_outline.proofs.HeaderLaws.{Using}
use Rattle.sx_outline.proofs.header_reading.read_uses.Given as goal

abbrev pub invariant-lines : goal.invariant-lines
invariant-lines l = AreUsesFound l.uses × Using (kept_lines (left l.rest)) l.uses.names.items (kept_lines (left l.left)) × (IsUtf8 l.rest.bytes.now → IsUtf8 l.left.bytes.now)

abbrev pub decreases-lines : goal.decreases-lines
decreases-lines l = length l.left.bytes.now
