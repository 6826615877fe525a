use Rattle.std.proofs.Common.{◌≡◌, Some, get_or, Contains}
use Rattle.std.specs.List.{slice_get}
use Rattle.sx_slots.proofs.Seeking.{left_of}
use Rattle.sx_earley.specs.Shown.{plain}
use Rattle.sx_earley.specs.Growth.{GoesOnFrom, AllNew}
use Rattle.sx_grammar.specs.declared.item.Item.{Item}
use Rattle.sx_earley.specs.Chart.{Joins, IsJoined, moved}
use Rattle.sx_earley.specs.Keys.{IsKeyed}
use Rattle.sx_earley.proofs.Passing.{ArePassed}
use Rattle.sx_earley.proofs.growing.join_over.Given as goal

abbrev pub invariant-loop-here : goal.invariant-loop-here
invariant-loop-here l = record {
  extends : GoesOnFrom l.fn.found l.found;
  only : AllNew l.fn.found l.found (IsJoined (plain l.grammar) (λ x. x ≡ l.before) (IsKeyed l.fn.found l.near.filed.now l.near.filling));
  every : ArePassed l.near.filed.now.keys (λ n. (x : Item) → slice_get l.fn.found (get_or l.near.filed.now.numbers.items n 0) ≡ Some x → Joins (plain l.grammar) l.before x → Contains l.found (moved l.before x.end)) l.key l.here;
}

abbrev pub decreases-loop-here : goal.decreases-loop-here
decreases-loop-here l = left_of l.here
