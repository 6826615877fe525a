use Rattle.std.proofs.Common.{◌≡◌, ◌+◌, ◌*◌, ◌≤◌, length}
use Rattle.sx_grammar.specs.Reading.{Readings}
use Rattle.sx_forest.specs.Readings.{plain_readings}
use Rattle.sx_forest.specs.Tallies.{tally_of}
use Rattle.sx_forest.specs.Forests.{grammar_in, tokens_in, symbols_of, depth_in, followed, IsReadTo}
use Rattle.sx_forest.proofs.building.+build.Given as goal

abbrev pub decreases-build : goal.decreases-build
decreases-build l = 3 * depth_in (tally_of l.entry.ways) + 2

abbrev pub decreases-extend : goal.decreases-extend
decreases-extend l = 3 * depth_in (tally_of l.opened.now.ways) + 1

abbrev pub decreases-go_over : goal.decreases-go_over
decreases-go_over l = 3 * depth_in (tally_of l.here.opened.now.ways)

abbrev pub invariant-extend-loop-next : goal.invariant-extend-loop-next
invariant-extend-loop-next l = record {
  read : IsReadTo (grammar_in l.forest) (tokens_in l.forest) l.forest.start l.opened l.next l.here (plain_readings l.kids.items);
  within : l.next ≤ length (symbols_of (grammar_in l.forest) l.opened.head);
  behind : (more : Readings) × (plain_readings l.kids.items ≡ followed (plain_readings l.fn.kids.items) more);
}
