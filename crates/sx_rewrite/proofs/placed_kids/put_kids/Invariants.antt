use Rattle.sx_rewrite.proofs.Taking.{TakenTo}
use Rattle.sx_rewrite.proofs.placed_kids.put_kids.Given as goal

abbrev pub invariant-loop-i : goal.invariant-loop-i
invariant-loop-i l = TakenTo l.givens l.i l.initial.kids l.kids l.left l.placed.items
