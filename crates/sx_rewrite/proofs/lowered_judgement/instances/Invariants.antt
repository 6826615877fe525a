use Rattle.std.proofs.Common.{map}
use Rattle.sx_term.specs.Term.{tree}
use Rattle.sx_term.specs.Instances.{instance, bound_by}
use Rattle.sx_rewrite.proofs.Judged.{MadeSoFar}
use Rattle.sx_rewrite.proofs.lowered_judgement.instances.Given as goal

abbrev pub invariant-loop-i : goal.invariant-loop-i
invariant-loop-i l = MadeSoFar (instance (bound_by (map tree l.binds))) l.terms l.i l.made.items
