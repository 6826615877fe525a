use Rattle.sx_compiling.proofs.MadeUnits.{units_keep_promise}
use Rattle.sx_compiling.proofs.laws.units_keep_promise.Goals as goal

pub returns : goal.returns
returns c = units_keep_promise
