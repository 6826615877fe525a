use Rattle.sx_derive.proofs.laws.stuck_goal_is_unique.Goals as goal
use Rattle.sx_derive.proofs.BlamedOnce.{stuck_goal_is_unique}

pub returns : goal.returns
returns c = stuck_goal_is_unique
