use Rattle.std.proofs.Common.{rules}
use Rattle.sx_interface.proofs.interface_writing.write_interface.Goals as goal

pub returns-in-Err-clause-err : goal.returns-in-Err-clause-err
returns-in-Err-clause-err c = search rules
