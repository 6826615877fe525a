use Rattle.sx_compiling.proofs.Agreeing.{units_agree}
use Rattle.sx_compiling.proofs.laws.units_agree.Goals as goal

pub returns : goal.returns
returns c = units_agree c.one_extension_header.ensures
