use Rattle.std.proofs.Common.{rules, map, ◌∙◌}
use Rattle.sx_term.specs.declared.term.Term.TheViews.{the_lemmas}
use Rattle.sx_term.specs.Term.{tree}
use Rattle.sx_term.specs.Instances.{bound_by}
use Rattle.sx_term.proofs.Kids.{depth_of-kid}
use Rattle.sx_plain.proofs.Gathered.{instances_made, node_instance}
use Rattle.sx_rewrite.proofs.instance_made.+instance_made.Goals as goal

pub instance_made-requires : goal.instance_made-requires
instance_made-requires t c =
    let k = depth_of-kid _ _ _ _ _ _ c.in-Node.is c.deref-kid-items.ensures.value c.loop-kid-test.true c.kid-item.is in
    search (rules, the_lemmas)

pub returns-after-loop-kid : goal.returns-after-loop-kid
returns-after-loop-kid t c =
    instances_made (bound_by (map tree c.args.parts.now)) c.in-Node.label c.loop-kid.made c.deref-kid-items.result.now _ c.loop-kid.invariant c.loop-kid-test.false
    ∙ node_instance (bound_by (map tree c.args.parts.now)) _ _ _ _ c.in-Node.is c.deref-kid-items.ensures.value
