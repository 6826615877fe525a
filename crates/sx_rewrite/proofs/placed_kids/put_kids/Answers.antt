use Rattle.std.proofs.Common.{List, Box, ◌+◌, sym, subst}
use Rattle.std.specs.declared.alloc.Global.{Global}
use Rattle.sx_rules.specs.declared.proof.Proof.{Proof as ProofOf}
use Rattle.sx_rewrite.proofs.Taking.{TakenTo, read-at, taken-within, taken-some, taken-step, taken-all}
use Rattle.sx_rewrite.proofs.placed_kids.put_kids.Goals as goal

pub take_kid-requires-clause-within : goal.take_kid-requires-clause-within
take_kid-requires-clause-within c =
    taken-within c.args.givens.now c.loop-i.i c.args.kids.now c.loop-i.kids c.loop-i.left c.loop-i.placed.items c.loop-i.invariant _ c.loop-i-test.true (read-at c.args.givens.now c.loop-i.i 0 c.loop-i-test.true) c.requires.below

pub take_kid-requires-clause-some : goal.take_kid-requires-clause-some
take_kid-requires-clause-some c =
    taken-some c.args.givens.now c.loop-i.i c.args.kids.now c.loop-i.kids c.loop-i.left c.loop-i.placed.items c.loop-i.invariant _ c.loop-i-test.true (read-at c.args.givens.now c.loop-i.i 0 c.loop-i-test.true) c.requires.below

pub loop-i-preserved : goal.loop-i-preserved
loop-i-preserved c =
    let step = taken-step c.args.givens.now c.loop-i.i c.args.kids.now c.loop-i.kids c.loop-i.left c.loop-i.placed.items c.loop-i.invariant _ c.loop-i-test.true (read-at c.args.givens.now c.loop-i.i 0 c.loop-i-test.true) c.requires.below
    c.take_kid.new.left c.take_kid.new.kids c.in_ok-take_kid.field-0 c.in_ok-take_kid.ensures.taken c.in_ok-take_kid.ensures.kid in
    subst (λ (xs : List (Box ProofOf Global)). TakenTo c.args.givens.now (c.loop-i.i + 1) c.args.kids.now c.take_kid.new.kids c.take_kid.new.left xs) (sym c.in_ok-push.ensures.items) step

pub returns : goal.returns
returns c = taken-all c.args.givens.now c.loop-i.i c.args.kids.now c.loop-i.kids c.loop-i.left c.loop-i.placed.items c.loop-i.invariant c.loop-i-test.false
