use Rattle.std.proofs.Common.{sym, ◌∙◌}
use Rattle.sx_auditing.proofs.Sets.{others-more, others-all, place-here}
use Rattle.sx_auditing.proofs.naming.place_of.Goals as goal

pub loop-place-preserved : goal.loop-place-preserved
loop-place-preserved g c =
    others-more _ c.args.name.now c.args.slots.now c.loop-place.place c.index-slots-place.result
    c.loop-place-test.true c.index-slots-place.is c.loop-place.invariant
    (sym c.has_name.ensures ∙ c.if-has_name.false)

pub returns-then-has_name : goal.returns-then-has_name
returns-then-has_name g c =
    place-here _ c.args.name.now c.args.slots.now c.loop-place.place c.index-slots-place.result
    c.loop-place-test.true c.index-slots-place.is c.loop-place.invariant
    (sym c.has_name.ensures ∙ c.if-has_name.true)

pub returns : goal.returns
returns g c =
    others-all _ c.args.name.now c.args.slots.now c.loop-place.place c.loop-place-test.false
    c.loop-place.invariant
