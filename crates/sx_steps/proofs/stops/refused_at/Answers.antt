use Rattle.std.proofs.Common.{ℕ, List, ap}
use Rattle.sx_steps.specs.Stops.{defect_at}
use Rattle.sx_steps.proofs.stops.refused_at.Goals as goal

pub returns-in-Ok : goal.returns-in-Ok
returns-in-Ok c = ap (λ (file : List ℕ). defect_at c.args.place file c.args.defect) c.in-Ok.ensures
