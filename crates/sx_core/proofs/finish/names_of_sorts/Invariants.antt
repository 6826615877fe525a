use Rattle.std.proofs.Common.{◌≡◌, take, map}
use Rattle.sx_core.specs.Rows.{sort_row}
use Rattle.sx_core.proofs.finish.names_of_sorts.Given as goal

abbrev pub invariant-loop-i : goal.invariant-loop-i
invariant-loop-i l = l.names.items ≡ take l.i (map (λ row. row.name) (map sort_row l.rows))
