use Rattle.sx_derive.proofs.laws.stuck_goal_exists.Goals as goal
use Rattle.sx_derive.proofs.Blamed.{stuck_goal_exists}

pub returns : goal.returns
returns c = stuck_goal_exists
