use Rattle.sx_rules.specs.SubjectTerms.{output_mask}
use Rattle.sx_arena.specs.Arena.{trees}
use Rattle.sx_arena.proofs.Entering.{Placed}
use Rattle.sx_arena.proofs.input.enter_places.Given as goal

abbrev pub invariant-loop-i : goal.invariant-loop-i
invariant-loop-i l = Placed (trees l.initial.arena) l.arena (output_mask l.roles) l.outputs l.parts.items l.places l.i
