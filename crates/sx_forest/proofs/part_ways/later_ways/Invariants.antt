use Rattle.std.proofs.Common.{◌≤◌, length}
use Rattle.sx_earley.specs.Shown.{plain}
use Rattle.sx_grammar.specs.Tally.{Tally, plus}
use Rattle.sx_forest.specs.Tallies.{tally_of, ways_of}
use Rattle.sx_forest.specs.Rows.{SumTo}
use Rattle.sx_forest.proofs.part_ways.later_ways.Given as goal

abbrev pub invariant-loop-left : goal.invariant-loop-left
invariant-loop-left l = record {
  low : 1 ≤ l.left;
  high : l.left ≤ length l.entries;
  on : (t : Tally) → SumTo (plain l.grammar) l.sort l.least (ways_of l.next) l.entries l.left t →
      SumTo (plain l.grammar) l.sort l.least (ways_of l.next) l.entries (length l.entries) (plus t (tally_of l.all));
}

abbrev pub decreases-loop-left : goal.decreases-loop-left
decreases-loop-left l = l.left
