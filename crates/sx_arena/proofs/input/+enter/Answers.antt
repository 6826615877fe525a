use Rattle.std.proofs.Common.{rules}
use Rattle.sx_term.specs.declared.term.Term.TheViews.{the_lemmas}
use Rattle.sx_term.proofs.Kids.{depth_of-kid}
use Rattle.sx_arena.proofs.Patterns.{ok_weaker}
use Rattle.sx_arena.proofs.Entering.{entering_none, entering_more, entering_end}
use Rattle.sx_arena.proofs.input.+enter.Goals as goal

pub loop-kid-init : goal.loop-kid-init
loop-kid-init t c = entering_none _ _ _ c.requires.arena c.in_ok-parts-in-Node.ensures.items

pub enter-requires : goal.enter-requires
enter-requires t c =
    let k = depth_of-kid _ _ _ _ _ _ c.in-Node.is c.deref-kid-items.ensures.value c.loop-kid-test.true c.kid-item.is in
    let a = c.loop-kid.invariant.arena in
    search (rules, the_lemmas)

pub loop-kid-preserved : goal.loop-kid-preserved
loop-kid-preserved t c = entering_more _ _ _ _ _ _ _ _ _ c.loop-kid.invariant c.in_ok-enter-in-Node.ensures c.in_ok-push-in-Node.ensures.items c.loop-kid-test.true c.kid-item.is

pub node-requires-clause-kids : goal.node-requires-clause-kids
node-requires-clause-kids t c = c.loop-kid.invariant.below

pub returns-after-loop-kid : goal.returns-after-loop-kid
returns-after-loop-kid t c =
    ok_weaker _ _ (λ j h. entering_end _ _ _ _ _ _ _ _ _ c.loop-kid.invariant c.loop-kid-test.false c.deref-kid-items.ensures.value c.in-Node.is j h) c.node.result c.node.ensures
