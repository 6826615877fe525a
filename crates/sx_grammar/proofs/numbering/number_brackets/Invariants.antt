use Rattle.std.proofs.Common.{take}
use Rattle.sx_grammar.specs.Tables.{AreNumberedPairs}
use Rattle.sx_grammar.proofs.numbering.number_brackets.Given as goal

abbrev pub invariant-loop-sort : goal.invariant-loop-sort
invariant-loop-sort l = AreNumberedPairs l.literals (take l.sort-index l.sorts) l.out.items
