use Rattle.sx_rewrite.proofs.Checks.{flat_goals_stay}
use Rattle.sx_rewrite.proofs.check_laws.flat_goals_stay.Goals as goal

pub returns : goal.returns
returns c = flat_goals_stay
