use Rattle.sx_rules.specs.SubjectTerms.{output_mask}
use Rattle.sx_arena.specs.Arena.{trees}
use Rattle.sx_arena.proofs.Placed.{Placing}
use Rattle.sx_arena.proofs.places.fit_places.Given as goal

abbrev pub invariant-loop-i : goal.invariant-loop-i
invariant-loop-i l = Placing (trees l.arena) l.initial.binds l.binds l.env l.last (output_mask l.roles) l.outputs l.places l.terms l.i l.taken
