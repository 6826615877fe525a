use Rattle.sx_unit.proofs.Units.{final}
use Rattle.sx_unit.proofs.laws.module_type_errors_are_final.Goals as goal

pub returns : goal.returns
returns c = final
