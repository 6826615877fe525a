use Rattle.sx_top.proofs.Propers.{proper}
use Rattle.sx_top.proofs.read_core.state_problem.Goals as goal

pub returns-in-Ok-clause-proper : goal.returns-in-Ok-clause-proper
returns-in-Ok-clause-proper c = proper c.args.bytes.now _ c.in-Ok.ensures
