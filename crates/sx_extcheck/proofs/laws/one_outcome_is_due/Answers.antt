use Rattle.sx_extcheck.proofs.OneOutcome.{one_outcome_is_due}
use Rattle.sx_extcheck.proofs.laws.one_outcome_is_due.Goals as goal

pub returns : goal.returns
returns c = one_outcome_is_due
