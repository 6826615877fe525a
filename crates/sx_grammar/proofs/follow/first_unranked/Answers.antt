use Rattle.std.proofs.Common.{arith, sym, ◌∙◌}
use Rattle.std.proofs.lemmas.Bool.{false≢true}
use Rattle.sx_grammar.proofs.Settling.{ranked_more}
use Rattle.sx_grammar.proofs.follow.first_unranked.Goals as goal

pub loop-place-preserved : goal.loop-place-preserved
loop-place-preserved c = λ before. ranked_more c.args.ranks.now c.args.needs.now c.loop-place.place (c.loop-place.invariant before) (c.has_rank.ensures.0 c.if-not-has_rank.false)

pub returns : goal.returns
returns c = λ before k x lt got. c.loop-place.invariant before k x (omega (arith, lt, c.loop-place-test.false)) got

pub returns-then-not-has_rank : goal.returns-then-not-has_rank
returns-then-not-has_rank c = λ before.
    (c.loop-place-test.true, c.loop-place.invariant before, λ has. false≢true (sym c.if-not-has_rank.true ∙ c.has_rank.ensures.1 has))
