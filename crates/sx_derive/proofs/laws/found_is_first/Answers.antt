use Rattle.sx_derive.proofs.laws.found_is_first.Goals as goal
use Rattle.sx_derive.proofs.Walked.{found_is_first}

pub returns : goal.returns
returns c = found_is_first
