use Rattle.sx_auditing.proofs.Names.{names-once}
use Rattle.sx_auditing.proofs.laws.names_once.Goals as goal

pub returns : goal.returns
returns c = names-once
