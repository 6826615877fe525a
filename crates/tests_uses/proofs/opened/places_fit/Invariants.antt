use Rattle.sx_term.specs.Shapes.{shapes}
use Rattle.tests_uses.proofs.FromHeld.{FitFrom}
use Rattle.tests_uses.proofs.opened.places_fit.Given as goal

abbrev pub invariant-loop-i : goal.invariant-loop-i
invariant-loop-i l = FitFrom (shapes l.all) l.places l.terms l.i → FitFrom (shapes l.all) l.places l.terms 0
