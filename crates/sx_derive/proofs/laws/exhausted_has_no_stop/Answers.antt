use Rattle.sx_derive.proofs.laws.exhausted_has_no_stop.Goals as goal
use Rattle.sx_derive.proofs.Blamed.{exhausted_has_no_stop}

pub returns : goal.returns
returns c = exhausted_has_no_stop
