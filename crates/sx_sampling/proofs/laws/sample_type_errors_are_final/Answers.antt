use Rattle.sx_sampling.proofs.TypeErrors.{sample_type_errors_are_final}
use Rattle.sx_sampling.proofs.laws.sample_type_errors_are_final.Goals as goal

pub returns : goal.returns
returns c = sample_type_errors_are_final c.type_errors_of_units_are_final.ensures
