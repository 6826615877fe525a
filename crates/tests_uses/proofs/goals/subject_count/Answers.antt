use Rattle.tests_uses.proofs.Fitting.{counts-start, counts-end}
use Rattle.tests_uses.proofs.goals.subject_count.Goals as goal

pub loop-place-init : goal.loop-place-init
loop-place-init c = counts-start c.args.places.now

pub returns : goal.returns
returns c = counts-end c.args.places.now c.loop-place.place-index c.loop-place.count c.loop-place.invariant c.loop-place-test.false
