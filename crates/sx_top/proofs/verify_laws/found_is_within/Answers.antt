use Rattle.sx_top.proofs.FoundWithin.{found_within}
use Rattle.sx_top.proofs.verify_laws.found_is_within.Goals as goal

pub returns : goal.returns
returns c = found_within
