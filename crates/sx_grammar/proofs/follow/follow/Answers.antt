use Rattle.std.proofs.Common.{refl, length, arith, subst}
use Rattle.std.proofs.lemmas.Option.{slice_get_read}
use Rattle.sx_grammar.specs.Ranks.{HasRanksBelow}
use Rattle.sx_grammar.proofs.Settling.{settles_first, follows_first, follows_more, complete_from, ranks_below}
use Rattle.sx_grammar.proofs.follow.follow.Goals as goal

pub settle_all-requires-clause-sound : goal.settle_all-requires-clause-sound
settle_all-requires-clause-sound c = settles_first c.args.rules.now c.args.bound c.in_ok-progress.progress c.in_ok-progress.ensures

pub loop-next-init : goal.loop-next-init
loop-next-init c = follows_first c.args.rules.now c.args.bound c.in_ok-progress.progress c.settle_all.new.progress c.in_ok-progress.ensures.ranks c.in_ok-settle_all.ensures

pub release-requires-clause-ranked : goal.release-requires-clause-ranked
release-requires-clause-ranked c =
    let order = c.loop-next.progress.order in
    let at = slice_get_read order.items (length order.items) c.loop-next.next c.index-number.result.now refl (omega (arith, c.loop-next-test.true, order.ok.0, c.len.ensures)) c.index-number.ensures in
    (c.loop-next.next, c.loop-next.invariant.sound.ordered c.loop-next.next c.index-number.result.now at)

pub loop-next-preserved : goal.loop-next-preserved
loop-next-preserved c =
    let order = c.loop-next.progress.order in
    let at = slice_get_read order.items (length order.items) c.loop-next.next c.index-number.result.now refl (omega (arith, c.loop-next-test.true, order.ok.0, c.len.ensures)) c.index-number.ensures in
    follows_more c.args.rules.now c.args.bound c.loop-next.next c.index-number.result.now c.loop-next.progress c.release.new.progress c.loop-next.invariant at c.in_ok-release.ensures.goes c.in_ok-release.ensures.none

pub returns-clause-complete : goal.returns-clause-complete
returns-clause-complete c =
    let h = c.loop-next.invariant in
    let order = c.loop-next.progress.order in
    complete_from c.args.rules.now c.loop-next.progress h.sound h.all (λ n x lt got. h.none n x (omega (arith, lt, c.loop-next-test.false, order.ok.0, c.len.ensures)) got)

pub returns-clause-low : goal.returns-clause-low
returns-clause-low c = subst (λ n. HasRanksBelow n c.loop-next.progress.ranks.items) c.loop-next.invariant.ranks (ranks_below c.args.rules.now c.loop-next.progress c.loop-next.invariant.sound)
