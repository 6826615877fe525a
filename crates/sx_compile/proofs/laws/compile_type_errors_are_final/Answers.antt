use Rattle.sx_compile.proofs.TypeErrors.{compile_type_errors_are_final}
use Rattle.sx_compile.proofs.laws.compile_type_errors_are_final.Goals as goal

pub returns : goal.returns
returns c = compile_type_errors_are_final c.type_errors_of_units_are_final.ensures
