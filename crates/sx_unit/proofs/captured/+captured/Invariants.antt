use Rattle.sx_grammar.specs.Tables.{literals_of}
use Rattle.sx_unit.proofs.Capturing.{FreeBefore}
use Rattle.sx_unit.proofs.captured.+captured.Given as goal

abbrev pub decreases-captured : goal.decreases-captured
decreases-captured l = goal.size-captured l

abbrev pub invariant-loop-i : goal.invariant-loop-i
invariant-loop-i l = FreeBefore (literals_of l.grammar.parts) l.kids.items l.i
