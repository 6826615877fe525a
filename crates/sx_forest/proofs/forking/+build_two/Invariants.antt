use Rattle.std.proofs.Common.{◌+◌, ◌*◌, ◌≤◌, length}
use Rattle.sx_forest.specs.Readings.{plain_readings}
use Rattle.sx_forest.specs.Tallies.{tally_of}
use Rattle.sx_forest.specs.Forests.{grammar_in, tokens_in, symbols_of, depth_in, one_of, IsReadTo, IsMoreAt}
use Rattle.sx_forest.proofs.forking.+build_two.Given as goal

abbrev pub decreases-build_two : goal.decreases-build_two
decreases-build_two l = 4 * depth_in (tally_of l.entry.ways) + 2

abbrev pub decreases-kids_apart : goal.decreases-kids_apart
decreases-kids_apart l = 4 * depth_in (tally_of l.opened.now.ways) + 1

abbrev pub decreases-part : goal.decreases-part
decreases-part l = 4 * depth_in (tally_of l.here.opened.now.ways)

abbrev pub decreases-pair_at : goal.decreases-pair_at
decreases-pair_at l = 4 * depth_in (tally_of (one_of l.fork).ways) + 3

abbrev pub invariant-kids_apart-loop-dot : goal.invariant-kids_apart-loop-dot
invariant-kids_apart-loop-dot l = record {
  one : IsReadTo (grammar_in l.forest) (tokens_in l.forest) l.forest.start l.opened l.dot l.place (plain_readings l.one.items);
  other : IsReadTo (grammar_in l.forest) (tokens_in l.forest) l.forest.start l.opened l.dot l.place (plain_readings l.other.items);
  more : IsMoreAt (grammar_in l.forest) l.opened l.dot l.place;
  within : l.dot ≤ length (symbols_of (grammar_in l.forest) l.opened.head);
}
