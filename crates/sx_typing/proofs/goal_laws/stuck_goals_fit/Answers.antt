use Rattle.sx_typing.proofs.SortedGoals.{stuck_goals_fit}
use Rattle.sx_typing.proofs.goal_laws.stuck_goals_fit.Goals as goal

pub returns : goal.returns
returns c = stuck_goals_fit
