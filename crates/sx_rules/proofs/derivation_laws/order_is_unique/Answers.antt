use Rattle.sx_rules.proofs.derivation_laws.order_is_unique.Goals as goal
use Rattle.sx_rules.proofs.Unique.{order_is_unique}

pub returns : goal.returns
returns c = order_is_unique
