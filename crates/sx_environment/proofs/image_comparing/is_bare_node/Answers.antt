use Rattle.sx_environment.proofs.ImageNodes.{bare_node}
use Rattle.sx_environment.proofs.image_comparing.is_bare_node.Goals as goal

pub returns-then-label-eq0 : goal.returns-then-label-eq0
returns-then-label-eq0 c =
    bare_node c.args.term.now c.in-Node.label c.in-Node.kids c.as_slice.result.now
    c.is_empty.result c.in-Node.is c.as_slice.ensures.value c.if-label-eq0.true c.is_empty.ensures
