use Rattle.std.proofs.Common.{◌≡◌, ◌+◌, ◌*◌, map, take}
use Rattle.sx_term.specs.Tree.{forest, depth_of, greatest_depth}
use Rattle.sx_term.specs.Term.{tree}
use Rattle.sx_arena.specs.Arena.{trees, tree_at}
use Rattle.sx_arena.proofs.output.+exporting.Given as goal

abbrev pub decreases-export : goal.decreases-export
decreases-export l = 3 * depth_of (tree_at (trees l.arena.now) l.index)

abbrev pub decreases-export_all : goal.decreases-export_all
decreases-export_all l = 3 * greatest_depth (forest (map (tree_at (trees l.arena.now)) l.indices.now)) + 2

abbrev pub decreases-fill : goal.decreases-fill
decreases-fill l = 3 * greatest_depth (forest (map (tree_at (trees l.arena.now)) l.indices.now)) + 1

abbrev pub invariant-fill-loop-index : goal.invariant-fill-loop-index
invariant-fill-loop-index l = map tree l.terms.items ≡ map (tree_at (trees l.arena)) (take l.index-index l.indices)
