use Rattle.sx_lines.specs.Left.{left}
use Rattle.sx_interface.proofs.VersionLaws.{no_uses}
use Rattle.sx_interface.proofs.interface_rows.use_rows.Goals as goal

pub returns-in-One-clause-rows : goal.returns-in-One-clause-rows
returns-in-One-clause-rows c = rw (c.in-One.is, c.requires) (no_uses (left c.args.rest))
