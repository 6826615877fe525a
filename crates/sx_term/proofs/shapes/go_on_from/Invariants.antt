use Rattle.std.proofs.Common.{◌≡◌, map, take}
use Rattle.sx_term.specs.Shapes.{shape}
use Rattle.sx_term.proofs.shapes.go_on_from.Given as goal

abbrev pub invariant-loop-i : goal.invariant-loop-i
invariant-loop-i l = map shape (take l.i l.all) ≡ map shape (take l.i l.first)
