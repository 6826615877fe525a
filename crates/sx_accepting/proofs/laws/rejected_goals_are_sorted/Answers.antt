use Rattle.sx_accepting.proofs.Rejected.{rejected_goals_are_sorted}
use Rattle.sx_accepting.proofs.laws.rejected_goals_are_sorted.Goals as goal

pub returns : goal.returns
returns c = rejected_goals_are_sorted
