use Rattle.sx_grammar.proofs.Searching.{VisitBefore}
use Rattle.sx_grammar.proofs.cycle.visit.Given as goal

abbrev pub invariant-loop-sort : goal.invariant-loop-sort
invariant-loop-sort l = VisitBefore l.sorts l.fn.marks l.marks l.fn.stack.items l.stack.items l.sort-index
