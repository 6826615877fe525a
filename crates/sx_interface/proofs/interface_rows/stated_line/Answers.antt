use Rattle.std.proofs.Common.{rules}
use Rattle.sx_interface.proofs.interface_rows.stated_line.Goals as goal

pub returns-in-One-clause-line : goal.returns-in-One-clause-line
returns-in-One-clause-line c = search rules
