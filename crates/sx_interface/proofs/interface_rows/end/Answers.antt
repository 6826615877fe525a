use Rattle.std.proofs.Common.{rules}
use Rattle.sx_lines.specs.Reading.{no_line}
use Rattle.sx_interface.proofs.interface_rows.end.Goals as goal

pub returns-in-Ok : goal.returns-in-Ok
unfolding no_line
returns-in-Ok c = search rules
