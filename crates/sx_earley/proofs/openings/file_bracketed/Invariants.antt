use Rattle.std.proofs.Common.{length}
use Rattle.sx_earley.specs.Shown.{plain}
use Rattle.sx_earley.specs.Openings.{AreFiled, IsBelow}
use Rattle.sx_earley.proofs.openings.file_bracketed.Given as goal

abbrev pub invariant-loop-sort : goal.invariant-loop-sort
invariant-loop-sort l = AreFiled l.grammar (IsBelow (length (plain l.grammar).productions) l.sort) l.table
