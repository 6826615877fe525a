use Rattle.sx_derive.proofs.laws.stuck_goal_is_shallow.Goals as goal
use Rattle.sx_derive.proofs.BlameDepths.{stuck_goal_is_shallow}

pub returns : goal.returns
returns c = stuck_goal_is_shallow
