use Rattle.std.proofs.Common.{arith, length, subst, ◌≡◌}
use Rattle.sx_grammar.specs.Settled.{SettlesTo}
use Rattle.sx_grammar.proofs.Settling.{settles_none, settles_more}
use Rattle.sx_grammar.proofs.follow.settle_all.Goals as goal

pub loop-index-init : goal.loop-index-init
loop-index-init c = settles_none c.args.rules.now c.args.progress.now c.requires.sound

pub loop-index-preserved : goal.loop-index-preserved
loop-index-preserved c = settles_more c.args.rules.now c.loop-index.index c.args.progress.now c.loop-index.progress c.settle.new.progress c.loop-index.invariant c.in_ok-settle.ensures

pub returns : goal.returns
returns c =
    let rules = c.args.rules.now in
    let end : c.loop-index.index ≡ length rules = omega (arith, c.loop-index.auto.index-end, c.loop-index-test.false) in
    subst (λ n. SettlesTo rules n c.args.progress.now c.loop-index.progress) end c.loop-index.invariant
