use Rattle.sx_derive.proofs.laws.walk_decides.Goals as goal
use Rattle.sx_derive.proofs.Decided.{walk_decides}

pub returns : goal.returns
returns c = walk_decides
