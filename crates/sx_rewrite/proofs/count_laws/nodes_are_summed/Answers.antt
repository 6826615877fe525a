use Rattle.sx_rewrite.proofs.Summed.{nodes_are_summed}
use Rattle.sx_rewrite.proofs.count_laws.nodes_are_summed.Goals as goal

pub returns : goal.returns
returns c = nodes_are_summed
