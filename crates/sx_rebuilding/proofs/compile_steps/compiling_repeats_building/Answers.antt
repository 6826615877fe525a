use Rattle.sx_rebuilding.proofs.Repeated.{compiling_repeats_building}
use Rattle.sx_rebuilding.proofs.compile_steps.compiling_repeats_building.Goals as goal

pub returns : goal.returns
returns c = compiling_repeats_building c.compiles_agree.ensures
