use Rattle.sx_earley.specs.Openings.{AreFiled, IsBelow}
use Rattle.sx_earley.proofs.openings.file_labelled.Given as goal

abbrev pub invariant-loop-label : goal.invariant-loop-label
invariant-loop-label l = AreFiled l.grammar (IsBelow l.label 0) l.table
