use Rattle.std.proofs.Common.{◌≡◌, map, take}
use Rattle.sx_term.specs.Shapes.{shape}
use Rattle.sx_term.proofs.shapes.Shapes.copy.Given as goal

abbrev pub invariant-loop-con : goal.invariant-loop-con
invariant-loop-con l = map shape l.cons.items ≡ map shape (take l.con-index l.self.cons.items)
