use Rattle.std.proofs.Common.{rules}
use Rattle.sx_compiling.proofs.module_stops.bad_module.Goals as goal

pub returns : goal.returns
returns c = search rules
