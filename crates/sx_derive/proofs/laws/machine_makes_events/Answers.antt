use Rattle.sx_derive.proofs.laws.machine_makes_events.Goals as goal
use Rattle.sx_derive.proofs.Stepped.{machine_makes_events}

pub returns : goal.returns
returns c = machine_makes_events
