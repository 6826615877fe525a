use Rattle.std.proofs.Common.{◌≡◌, [], length, map}
use Rattle.std.specs.Str.{IsUtf8}
use Rattle.sx_lines.specs.Left.{left}
use Rattle.sx_lines.specs.Rows.{distinct_rows}
use Rattle.sx_interface.specs.Interfaces.{mark_after}
use Rattle.sx_interface.specs.InterfaceView.{marks_view}
use Rattle.sx_interface.proofs.mark_rows.add_rows.Given as goal

abbrev pub invariant-rows : goal.invariant-rows
invariant-rows l =
    (l.seen ≡ map (λ m. m.name) (marks_view l.marks.items))
    × (distinct_rows (λ m. m.name) (mark_after l.front) (marks_view l.marks.items) (left l.rest) ≡ distinct_rows (λ m. m.name) (mark_after l.front) [] (left l.fn.rest))
    × (IsUtf8 l.fn.rest.bytes.now → IsUtf8 l.rest.bytes.now)

abbrev pub decreases-rows : goal.decreases-rows
decreases-rows l = length l.rest.bytes.now
