use Rattle.sx_closure.proofs.Closing.{are_closure}
use Rattle.sx_closure.proofs.laws.modules_are_closure.Goals as goal

pub returns : goal.returns
returns c = are_closure
