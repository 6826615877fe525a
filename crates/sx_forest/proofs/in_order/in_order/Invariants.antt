use Rattle.std.proofs.Common.{take, map, Contains, ◌≡◌}
use Rattle.sx_earley.specs.Shown.{plain}
use Rattle.sx_forest.specs.declared.ordered.Ordered.{Ordered}
use Rattle.sx_forest.specs.Ordering.{IsOrdered}
use Rattle.sx_grammar.specs.Order.{rank_at}
use Rattle.sx_forest.proofs.in_order.in_order.Given as goal

abbrev pub invariant-loop-span : goal.invariant-loop-span
invariant-loop-span l = record {
  only : (o : Ordered) → Contains l.list.items o → Contains l.spans o.span × IsOrdered (plain l.grammar) (rank_at l.ranks) o;
  spans : map (λ o. o.span) l.list.items ≡ take l.span-index l.spans;
}
