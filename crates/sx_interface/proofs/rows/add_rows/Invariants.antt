use Rattle.std.proofs.Common.{◌≡◌, [], length}
use Rattle.sx_lines.specs.Left.{left}
use Rattle.sx_lines.specs.Reading.{kept}
use Rattle.sx_lines.specs.Rows.{name_after, distinct_rows}
use Rattle.sx_interface.proofs.rows.add_rows.Given as goal

abbrev pub invariant-rows : goal.invariant-rows
invariant-rows l =
    (l.seen ≡ l.names.items)
    × (distinct_rows (λ x. x) (name_after l.front) l.names.items (kept (left l.rest)) ≡ distinct_rows (λ x. x) (name_after l.front) [] (kept (left l.fn.rest)))

abbrev pub decreases-rows : goal.decreases-rows
decreases-rows l = length l.rest.bytes.now
