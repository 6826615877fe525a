use Rattle.sx_compile.proofs.Agreeing.{compiles_agree}
use Rattle.sx_compile.proofs.laws.compiles_agree.Goals as goal

pub returns : goal.returns
returns c = compiles_agree c.units_agree.ensures c.shows_once.ensures
