use Rattle.sx_top.proofs.TypeErrors.{type_errors_are_final}
use Rattle.sx_top.proofs.laws.type_errors_are_final.Goals as goal

pub returns : goal.returns
returns c =
    type_errors_are_final c.build_type_errors_are_final.ensures
    c.compile_type_errors_are_final.ensures c.sample_type_errors_are_final.ensures
