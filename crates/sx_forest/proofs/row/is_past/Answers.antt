use Rattle.std.proofs.Common.{arith}
use Rattle.std.proofs.lemmas.Bool.{leb-true}
use Rattle.sx_forest.proofs.RowWays.{none_after}
use Rattle.sx_forest.proofs.row.is_past.Goals as goal

pub returns : goal.returns
returns c = λ is p high.
    let past = leb-true c.args.row.now.end c.args.place is in
    none_after c.args.row.now p (omega arith)
