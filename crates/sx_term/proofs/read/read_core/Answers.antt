use Rattle.std.proofs.Common.{rules}
use Rattle.sx_term.proofs.read.read_core.Goals as goal

pub returns-in-Err : goal.returns-in-Err
returns-in-Err c = search rules
