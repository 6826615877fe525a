use Rattle.sx_rules.specs.SubjectTerms.{output_mask}
use Rattle.sx_arena.specs.Arena.{trees}
use Rattle.sx_arena.proofs.Placed.{Forming}
use Rattle.sx_arena.proofs.places.make_places.Given as goal

abbrev pub invariant-loop-i : goal.invariant-loop-i
invariant-loop-i l = Forming (trees l.initial.arena) l.arena l.binds l.env (output_mask l.roles) l.outputs l.parts.items l.places l.i
