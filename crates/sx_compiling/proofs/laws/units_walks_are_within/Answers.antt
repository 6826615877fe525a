use Rattle.sx_compiling.proofs.FewTries.{walks_are_within}
use Rattle.sx_compiling.proofs.laws.units_walks_are_within.Goals as goal

pub returns : goal.returns
returns c = walks_are_within
