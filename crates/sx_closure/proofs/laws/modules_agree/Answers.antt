use Rattle.sx_closure.proofs.Agreeing.{modules_alike}
use Rattle.sx_closure.proofs.laws.modules_agree.Goals as goal

pub returns : goal.returns
returns c = modules_alike
