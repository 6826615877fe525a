use Rattle.sx_arena.specs.Arena.{trees}
use Rattle.sx_expand.proofs.BoxNodes.{node-boxed}
use Rattle.sx_expand.proofs.box_binding.close_node.Goals as goal

pub returns-in-Ok-clause-made : goal.returns-in-Ok-clause-made
returns-in-Ok-clause-made c = λ at d is f kids.
    let e = c.in-Ok.ensures in
    let so = e.ends at d is f in
    node-boxed c.args.origin.now (trees c.node_ends.new.arena) c.args.number d c.in-Ok.field-0.binds c.args.kids c.in-Ok.field-0.outputs so.0 kids e.below so.1
