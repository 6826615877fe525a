use Rattle.std.proofs.Common.{refl}
use Rattle.sx_forest.proofs.Kids.{reading-at_node}
use Rattle.sx_forest.proofs.building.node.Goals as goal

pub returns : goal.returns
returns c = reading-at_node _ c.args.label c.args.kids c.args.from c.args.to refl
