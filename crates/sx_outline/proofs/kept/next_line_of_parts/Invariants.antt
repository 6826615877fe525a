use Rattle.std.proofs.Common.{◌≡◌, ◌≤◌, length}
use Rattle.std.specs.Str.{IsUtf8}
use Rattle.sx_lines.specs.Left.{left}
use Rattle.sx_outline.specs.Known.{kept_lines}
use Rattle.sx_outline.proofs.kept.next_line_of_parts.Given as goal

abbrev pub invariant-kept : goal.invariant-kept
invariant-kept l = (length l.lines.bytes.now ≤ length l.fn.rest.bytes.now) × (kept_lines (left l.fn.rest) ≡ kept_lines (left l.lines)) × (IsUtf8 l.fn.rest.bytes.now → IsUtf8 l.lines.bytes.now)

abbrev pub decreases-kept : goal.decreases-kept
decreases-kept l = length l.lines.bytes.now
