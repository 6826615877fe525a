use Rattle.sx_derive.proofs.laws.exhausted_means_none.Goals as goal
use Rattle.sx_derive.proofs.Walked.{exhausted_means_none}

pub returns : goal.returns
returns c = exhausted_means_none
