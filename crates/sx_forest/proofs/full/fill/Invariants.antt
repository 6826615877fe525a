use Rattle.sx_earley.specs.Shown.{plain, tokens_of}
use Rattle.sx_forest.specs.KeptRows.{AllKept}
use Rattle.sx_forest.specs.Ordering.{IsSoFar}
use Rattle.sx_forest.proofs.full.fill.Given as goal

abbrev pub invariant-loop-item : goal.invariant-loop-item
invariant-loop-item l = record {
  so : IsSoFar (plain l.grammar) (tokens_of l.grammar l.shown) l._start l.item-items l.item-index l.table.lists.items;
  kept : AllKept (plain l.grammar) (tokens_of l.grammar l.shown) l.table.lists.items l.kept.items;
}
