use Rattle.sx_build.proofs.TypeErrors.{build_type_errors_are_final}
use Rattle.sx_build.proofs.laws.build_type_errors_are_final.Goals as goal

pub returns : goal.returns
returns c = build_type_errors_are_final c.type_errors_of_units_are_final.ensures
