use Rattle.tests_uses.proofs.Fitting.{CountsSoFar}
use Rattle.tests_uses.proofs.goals.subject_count.Given as goal

abbrev pub invariant-loop-place : goal.invariant-loop-place
invariant-loop-place l = CountsSoFar l.places l.place-index l.count
