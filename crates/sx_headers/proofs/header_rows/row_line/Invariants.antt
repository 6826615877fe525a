use Rattle.std.proofs.Common.{◌≡◌, ◌-◌}
use Rattle.sx_lines.specs.Left.{left}
use Rattle.sx_lines.specs.Lines.{lines_from}
use Rattle.sx_lines.specs.Reading.{kept}
use Rattle.sx_headers.specs.HeaderRows.{number_at}
use Rattle.sx_headers.proofs.header_rows.row_line.Given as goal

-- the row stands as many lines after what is left as lines are to be taken
abbrev pub invariant-loop : goal.invariant-loop
invariant-loop l =
    number_at (kept (left l.rest)) (l.row - l.counter) ≡ number_at (kept (lines_from 1 l.bytes))
    l.row
