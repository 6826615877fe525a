use Rattle.sx_rewrite.proofs.Taking.{CountedTo}
use Rattle.sx_rewrite.proofs.placed_kids.places_left.Given as goal

abbrev pub invariant-loop-i : goal.invariant-loop-i
invariant-loop-i l = CountedTo l.many l.givens.items l.i l.left.items
