use Rattle.sx_derive.proofs.laws.stuck_goal_has_texts.Goals as goal
use Rattle.sx_derive.proofs.BlameTexts.{stuck_goal_has_texts}

pub returns : goal.returns
returns c = stuck_goal_has_texts
