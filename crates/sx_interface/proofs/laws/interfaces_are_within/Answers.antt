use Rattle.sx_interface.proofs.LineSizes.{interfaces_are_within}
use Rattle.sx_interface.proofs.laws.interfaces_are_within.Goals as goal

pub returns : goal.returns
returns c = interfaces_are_within
