use Rattle.sx_plain.proofs.laws.bodies_stay_sorted.Goals as goal
use Rattle.sx_plain.proofs.Grown.{bodies_stay_sorted}

pub returns : goal.returns
returns c = bodies_stay_sorted
