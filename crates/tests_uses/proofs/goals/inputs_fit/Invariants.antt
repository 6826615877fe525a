use Rattle.sx_term.specs.Shapes.{shapes}
use Rattle.tests_uses.proofs.Fitting.{FitsSoFar}
use Rattle.tests_uses.proofs.goals.inputs_fit.Given as goal

abbrev pub invariant-loop-place : goal.invariant-loop-place
invariant-loop-place l = FitsSoFar (shapes l.all) l.places l.terms l.place-index l.at
