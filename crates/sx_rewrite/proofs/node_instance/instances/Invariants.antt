use Rattle.sx_rewrite.proofs.Instanced.{InstancesSoFar}
use Rattle.sx_rewrite.proofs.node_instance.instances.Given as goal

abbrev pub invariant-loop-i : goal.invariant-loop-i
invariant-loop-i l = InstancesSoFar l.puts l.terms l.i l.made.items l.measures.items
