use Rattle.sx_derive.proofs.laws.found_has_few_nodes.Goals as goal
use Rattle.sx_derive.proofs.FewNodes.{few_nodes}

pub returns : goal.returns
returns c = few_nodes
