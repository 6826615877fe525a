use Rattle.sx_earley.proofs.ItemSets.{IsSoughtFrom}
use Rattle.sx_earley.proofs.item_set.ItemSet.has.Given as goal

abbrev pub invariant-loop-here : goal.invariant-loop-here
invariant-loop-here l = IsSoughtFrom l.self-inside.items.items l.self-inside.lasts.items l.item l.here

abbrev pub decreases-loop-here : goal.decreases-loop-here
decreases-loop-here l = l.here
