use Rattle.std.proofs.Common.{take}
use Rattle.sx_core.specs.Stated.{NameSorts}
use Rattle.sx_core.specs.Resolving.{rows_in}
use Rattle.sx_core.proofs.sort_table.SortTable.sorts.Given as goal

abbrev pub invariant-loop-i : goal.invariant-loop-i
invariant-loop-i l = NameSorts (rows_in l.self) (take l.i l.names) l.sorts.items
