use Rattle.sx_unit.proofs.OneUnit.{one_unit}
use Rattle.sx_unit.proofs.laws.one_unit.Goals as goal

pub returns : goal.returns
returns c = one_unit
