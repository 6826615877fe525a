use Rattle.sx_unit.proofs.Units.{units_are_made}
use Rattle.sx_unit.proofs.laws.units_are_made.Goals as goal

pub returns : goal.returns
returns c = units_are_made
