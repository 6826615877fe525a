use Rattle.sx_term.specs.Shapes.{shapes}
use Rattle.sx_rules.specs.Views.{forms}
use Rattle.sx_extension.proofs.Bodying.{BodiedOn, DefectOn}
use Rattle.sx_extension.proofs.body_checking.first_defect.Given as goal

abbrev pub invariant-loop-i : goal.invariant-loop-i
invariant-loop-i l = record {
  bodied : BodiedOn (forms l.forms) (shapes l.own.shapes.now) l.own.first l.lines l.read.rules.items l.read.bodies.items l.i;
  defect : DefectOn (forms l.forms) (shapes l.own.shapes.now) l.own.first l.lines l.read.rules.items l.read.bodies.items l.i;
}
