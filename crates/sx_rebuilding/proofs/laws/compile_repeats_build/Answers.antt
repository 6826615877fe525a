use Rattle.sx_rebuilding.proofs.GivenAgain.{compile_repeats_build}
use Rattle.sx_rebuilding.proofs.laws.compile_repeats_build.Goals as goal

pub returns : goal.returns
returns c = compile_repeats_build c.compiling_repeats_building.ensures
