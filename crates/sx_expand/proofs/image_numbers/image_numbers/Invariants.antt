use Rattle.sx_plain.specs.Views.{table_of}
use Rattle.sx_expand.proofs.NumbersPut.{NumbersSoFar}
use Rattle.sx_expand.proofs.image_numbers.image_numbers.Given as goal

abbrev pub invariant-loop-i : goal.invariant-loop-i
invariant-loop-i l = NumbersSoFar (table_of l.table) l.sorts l.initial.reader l.reader l.binds l.i l.numbers.items l.measures.items
