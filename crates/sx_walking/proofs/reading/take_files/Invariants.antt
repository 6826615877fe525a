use Rattle.std.proofs.Common.{drop}
use Rattle.sx_walking.specs.FileTable.{table_files}
use Rattle.sx_walking.proofs.Orders.{IsTaking}
use Rattle.sx_walking.proofs.reading.take_files.Given as goal

abbrev pub invariant-loop-i : goal.invariant-loop-i
invariant-loop-i g l =
    IsTaking (table_files l.initial.files) (table_files l.files) l.order (drop l.i l.order) l.taken.items
