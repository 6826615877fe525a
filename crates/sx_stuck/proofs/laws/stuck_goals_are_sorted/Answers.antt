use Rattle.sx_stuck.proofs.StuckGoals.{stuck_goals_are_sorted}
use Rattle.sx_stuck.proofs.laws.stuck_goals_are_sorted.Goals as goal

pub returns : goal.returns
returns c = stuck_goals_are_sorted
