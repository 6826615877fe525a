use Rattle.sx_arena.specs.contracts.shape.ShapePartialEq.TheImpl.{eq-value as shape_eq}
use Rattle.sx_slots.specs.Mixed.{folded}
use Rattle.sx_slots.proofs.Seeking.{IsSought, left_of}
use Rattle.sx_arena.proofs.Finding.{Wants}
use Rattle.sx_arena.proofs.cells.Cells.find.Given as goal

abbrev pub invariant-loop-here : goal.invariant-loop-here
invariant-loop-here l = IsSought l.self-inside.slots (Wants l.self-inside.cells.items (shape_eq.it l.shape)) (folded l.hash) l.here

abbrev pub decreases-loop-here : goal.decreases-loop-here
decreases-loop-here l = left_of l.here
