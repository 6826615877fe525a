use Rattle.std.proofs.Common.{◌↔◌, drop, map}
use Rattle.sx_rules.specs.Fits.{PremisesFit}
use Rattle.sx_term.specs.Shapes.{shapes}
use Rattle.sx_rules.specs.Views.{forms, premise}
use Rattle.sx_rules.proofs.fitting.premises_fit.Given as goal

abbrev pub invariant-loop-i : goal.invariant-loop-i
invariant-loop-i l = PremisesFit (shapes l.all) (forms l.known) l.vars (map premise (drop l.i l.premises)) ↔ PremisesFit (shapes l.all) (forms l.known) l.vars (map premise l.premises)
