use Rattle.sx_audit.proofs.NodeLaws.{derived-by-rules}
use Rattle.sx_audit.proofs.laws.derivations_are_by_rules.Goals as goal

pub returns : goal.returns
returns c = derived-by-rules
