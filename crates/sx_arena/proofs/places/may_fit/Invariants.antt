use Rattle.sx_rules.specs.SubjectTerms.{output_mask}
use Rattle.sx_arena.specs.Arena.{trees}
use Rattle.sx_arena.proofs.Keyed.{Keyed}
use Rattle.sx_arena.proofs.places.may_fit.Given as goal

abbrev pub invariant-loop-i : goal.invariant-loop-i
invariant-loop-i l = Keyed (trees l.arena) (output_mask l.roles) l.outputs l.places l.terms l.i l.taken
