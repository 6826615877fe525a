use Rattle.sx_audit.proofs.NodeLaws.{lines-named}
use Rattle.sx_audit.proofs.laws.lines_name_nodes.Goals as goal

pub returns : goal.returns
returns c = lines-named
