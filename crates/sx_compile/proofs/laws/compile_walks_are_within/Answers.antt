use Rattle.sx_compile.proofs.FewTries.{compile_walks_are_within}
use Rattle.sx_compile.proofs.laws.compile_walks_are_within.Goals as goal

pub returns : goal.returns
returns c = compile_walks_are_within c.units_walks_are_within.ensures
