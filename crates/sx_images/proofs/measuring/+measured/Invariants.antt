use Rattle.std.proofs.Common.{◌+◌, ◌*◌}
use Rattle.sx_term.specs.Tree.{depth_of}
use Rattle.sx_plain.specs.Views.{table_of}
use Rattle.sx_arena.specs.Arena.{trees, tree_at}
use Rattle.sx_images.proofs.KidMeasures.{Measuring}
use Rattle.sx_images.proofs.measuring.+measured.Given as goal

abbrev pub decreases-measured : goal.decreases-measured
decreases-measured l = 2 * depth_of (tree_at (trees l.arena.now) l.term) + 1

abbrev pub decreases-new_measure : goal.decreases-new_measure
decreases-new_measure l = 2 * depth_of (tree_at (trees l.arena.now) l.term)

abbrev pub invariant-new_measure-loop-kid : goal.invariant-new_measure-loop-kid
invariant-new_measure-loop-kid l = Measuring (table_of l.table) (trees l.arena) l.notes.items l.parts.items l.kid-items l.kid-index
