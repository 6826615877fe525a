use Rattle.sx_expand.proofs.Orders.{orders_are_lowered}
use Rattle.sx_expand.proofs.laws.orders_are_lowered.Goals as goal

pub returns : goal.returns
returns c = orders_are_lowered
