use Rattle.sx_rules.proofs.FirstUnbound.{unbound_first}
use Rattle.sx_rules.proofs.laws.unbound_is_first.Goals as goal

pub returns : goal.returns
returns c = unbound_first
