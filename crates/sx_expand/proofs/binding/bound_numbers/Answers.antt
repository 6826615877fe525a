use Rattle.std.proofs.Common.{arith}
use Rattle.sx_expand.proofs.NumbersBound.{none-bound, one-bound, all-bound, is-found}
use Rattle.sx_expand.proofs.binding.bound_numbers.Goals as goal

pub loop-v-init : goal.loop-v-init
loop-v-init c = none-bound c.args.work.now c.args.count _ c.in_ok-numbers.ensures.items

pub unreachable-requires : goal.unreachable-requires
unreachable-requires c = is-found c.args.work.now c.args.count c.loop-v.v c.requires.0 c.requires.2 c.loop-v-test.true (c.in-None.ensures c.requires.0 c.requires.1.binds)

pub loop-v-preserved : goal.loop-v-preserved
loop-v-preserved c = one-bound c.args.work.now c.args.count c.loop-v.v c.in-Some.term c.loop-v.numbers.items _ c.loop-v.invariant (λ terms h. c.in-Some.ensures terms h.binds) c.in_ok-push-in-Some.ensures.items

pub returns : goal.returns
returns c = all-bound c.args.work.now c.args.count c.loop-v.v c.loop-v.numbers.items c.loop-v.invariant (let a = c.loop-v-test.false in let b = c.loop-v.auto.v-end in omega (arith, a, b))
