use Rattle.sx_expand.proofs.NodeTerms.{MeasuresSoFar}
use Rattle.sx_expand.proofs.node_limits.instance_measures.Given as goal

abbrev pub invariant-loop-i : goal.invariant-loop-i
invariant-loop-i l = MeasuresSoFar l.parts l.terms l.i l.measures.items
