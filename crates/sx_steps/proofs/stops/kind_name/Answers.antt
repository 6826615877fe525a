use Rattle.sx_steps.proofs.stops.kind_name.Goals as goal

pub returns-in-Shape : goal.returns-in-Shape
returns-in-Shape c = rw c.in-Shape.is
