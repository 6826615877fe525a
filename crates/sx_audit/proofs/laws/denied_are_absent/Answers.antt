use Rattle.sx_audit.proofs.NodeLaws.{denied-absent}
use Rattle.sx_audit.proofs.laws.denied_are_absent.Goals as goal

pub returns : goal.returns
returns c = denied-absent
