use Rattle.std.proofs.Common.{◌-◌, ◌+◌, ◌≤◌, length, take, Contains}
use Rattle.sx_grammar.specs.declared.item.Item.{Item}
use Rattle.sx_earley.specs.Shown.{plain, tokens_of}
use Rattle.sx_earley.specs.Chart.{Treated}
use Rattle.sx_earley.specs.Keys.{AreNumbersWithin, IsFiled}
use Rattle.sx_earley.proofs.Whole.{SoFar}
use Rattle.sx_earley.proofs.all_items.collect.Given as goal

abbrev pub invariant-loop-item : goal.invariant-loop-item
invariant-loop-item l = record {
  few : length l.found + l.idle ≤ 2000000;
  within : l.next ≤ length l.found;
  so : SoFar (plain l.given.grammar.now) (tokens_of l.given.grammar.now l.given.shown.now) l.start l.notes.asked l.found l.idle;
  closed : Treated (plain l.given.grammar.now) (tokens_of l.given.grammar.now l.given.shown.now) (take l.next l.found) l.notes.asked l.found;
  filed : (x : Item) → Contains (take l.next l.found) x → IsFiled (plain l.given.grammar.now) l.found l.notes.filed x;
  numbers : AreNumbersWithin l.notes.filed (length l.found);
}

abbrev pub decreases-loop-item : goal.decreases-loop-item
decreases-loop-item l = 2000001 - l.next
