use Rattle.std.proofs.Common.{◌+◌, ◌*◌, map}
use Rattle.sx_term.specs.Tree.{forest, depth_of, greatest_depth}
use Rattle.sx_term.specs.Term.{tree}
use Rattle.sx_arena.specs.Arena.{trees}
use Rattle.sx_arena.proofs.Patterns.{Making}
use Rattle.sx_arena.proofs.pattern.+making.Given as goal

abbrev pub decreases-found_or_made : goal.decreases-found_or_made
decreases-found_or_made l = 4 * depth_of (tree l.pattern.now)

abbrev pub decreases-made_node : goal.decreases-made_node
decreases-made_node l = 4 * greatest_depth (forest (map tree l.kids.now)) + 3

abbrev pub decreases-made_many : goal.decreases-made_many
decreases-made_many l = 4 * greatest_depth (forest (map tree l.kids.now)) + 2

abbrev pub decreases-made_each : goal.decreases-made_each
decreases-made_each l = 4 * greatest_depth (forest (map tree l.patterns.now)) + 1

abbrev pub invariant-made_each-loop-pattern : goal.invariant-made_each-loop-pattern
invariant-made_each-loop-pattern l = Making (trees l.initial.arena) l.arena l.binds l.env l.parts.items l.patterns l.pattern-index
