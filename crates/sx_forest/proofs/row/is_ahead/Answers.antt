use Rattle.std.proofs.Common.{◌+◌, arith}
use Rattle.std.proofs.lemmas.Bool.{ltb-true}
use Rattle.sx_forest.proofs.RowWays.{none_before}
use Rattle.sx_forest.proofs.row.is_ahead.Goals as goal

pub returns : goal.returns
returns c = λ is p low.
    let ahead = ltb-true (c.args.place + c.len.result) c.args.row.now.end is in let len = c.len.ensures in
    none_before c.args.row.now p (omega arith)
