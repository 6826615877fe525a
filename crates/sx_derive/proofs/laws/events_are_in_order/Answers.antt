use Rattle.sx_derive.proofs.laws.events_are_in_order.Goals as goal
use Rattle.sx_derive.proofs.Walked.{events_are_in_order}

pub returns : goal.returns
returns c = events_are_in_order
