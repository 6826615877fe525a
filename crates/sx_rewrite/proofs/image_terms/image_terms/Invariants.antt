use Rattle.sx_plain.specs.Views.{table_of}
use Rattle.sx_rewrite.proofs.PutImages.{ImagesSoFar}
use Rattle.sx_rewrite.proofs.image_terms.image_terms.Given as goal

abbrev pub invariant-loop-i : goal.invariant-loop-i
invariant-loop-i l = ImagesSoFar (table_of l.table) l.sorts l.binds l.i l.terms.items l.measures.items
