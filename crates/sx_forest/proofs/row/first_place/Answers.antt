use Rattle.std.proofs.Common.{arith}
use Rattle.sx_forest.proofs.RowWays.{none_before}
use Rattle.sx_forest.proofs.row.first_place.Goals as goal

pub returns : goal.returns
returns c = λ p low. none_before c.args.row.now p (omega arith)
