use Rattle.sx_forest.proofs.Placing.{leaves_together}
use Rattle.sx_forest.proofs.laws.paths_leave_together.Goals as goal

pub returns : goal.returns
returns c = leaves_together
