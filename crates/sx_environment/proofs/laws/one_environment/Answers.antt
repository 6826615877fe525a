use Rattle.sx_environment.proofs.OneEnvironment.{one_environment}
use Rattle.sx_environment.proofs.laws.one_environment.Goals as goal

pub returns : goal.returns
returns c = one_environment
