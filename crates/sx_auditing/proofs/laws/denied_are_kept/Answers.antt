use Rattle.sx_auditing.proofs.Names.{deny-kept}
use Rattle.sx_auditing.proofs.laws.denied_are_kept.Goals as goal

pub returns : goal.returns
returns c = deny-kept
