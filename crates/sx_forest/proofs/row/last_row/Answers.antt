use Rattle.std.proofs.Common.{◌+◌, refl}
use Rattle.sx_forest.proofs.RowWays.{last_is}
use Rattle.sx_forest.proofs.row.last_row.Goals as goal

pub returns : goal.returns
returns c = last_is (record { end = c.args.to + 1; ways = c.of.result }) c.args.to refl c.of.ensures
