use Rattle.std.proofs.Common.{rules}
use Rattle.sx_term.specs.declared.term.Term.TheViews.{the_lemmas}
use Rattle.sx_term.proofs.Kids.{depth_of-kid}
use Rattle.sx_arena.proofs.Patterns.{ok_weaker}
use Rattle.sx_images.proofs.KidsFilled.{filling_none, filling_more, filling_end, filled_part, filled_past}
use Rattle.sx_images.proofs.filling.+filled.Goals as goal

pub loop-kid-init : goal.loop-kid-init
loop-kid-init t c = filling_none _ _ _ _ c.requires.arena c.requires.parts c.in_ok-made-in-Node.ensures.items

pub filled-requires : goal.filled-requires
filled-requires t c =
    let k = depth_of-kid _ _ _ _ _ _ c.in-Node.is c.deref-kid-items.ensures.value c.loop-kid-test.true c.kid-item.is in
    let a = c.loop-kid.invariant.arena in
    let b = c.loop-kid.invariant.parts in
    search (rules, the_lemmas)

pub loop-kid-preserved : goal.loop-kid-preserved
loop-kid-preserved t c = filling_more _ _ _ _ _ _ _ _ _ _ c.loop-kid.invariant c.in_ok-filled-in-Node.ensures c.in_ok-push-in-Node.ensures.items c.loop-kid-test.true c.kid-item.is

pub node-requires-clause-kids : goal.node-requires-clause-kids
node-requires-clause-kids t c = c.loop-kid.invariant.below

pub returns-after-loop-kid : goal.returns-after-loop-kid
returns-after-loop-kid t c =
    ok_weaker _ _ (λ j h. filling_end _ _ _ _ _ _ _ _ _ _ c.loop-kid.invariant c.loop-kid-test.false c.deref-kid-items.ensures.value c.in-Node.is j h) c.node.result c.node.ensures

pub returns-then-i-parts : goal.returns-then-i-parts
returns-then-i-parts t c = filled_part _ _ _ _ _ c.requires.arena c.requires.parts c.in-Var.is c.if-i-parts.true c.part_at.ensures

pub returns-else-i-parts : goal.returns-else-i-parts
returns-else-i-parts t c = ok_weaker _ _ (λ j h. filled_past _ _ _ _ _ _ c.in-Var.is c.if-i-parts.false c.new.ensures.items j h) c.node-in-Var.result c.node-in-Var.ensures
