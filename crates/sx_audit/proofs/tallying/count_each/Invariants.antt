use Rattle.std.proofs.Common.{◌≡◌, ◌++◌, take, drop, map}
use Rattle.sx_audit.specs.Rows.{row_after}
use Rattle.sx_audit.proofs.tallying.count_each.Given as goal

abbrev pub invariant-loop-row : goal.invariant-loop-row
invariant-loop-row l =
    l.rows ≡ map (row_after l.rule) (take l.row-index l.fn.rows) ++ drop l.row-index l.fn.rows
