use Rattle.std.proofs.Common.{◌+◌, ◌*◌}
use Rattle.sx_term.specs.Tree.{depth_of}
use Rattle.sx_plain.specs.Views.{table_of}
use Rattle.sx_arena.specs.Arena.{trees, tree_at}
use Rattle.sx_images.proofs.KidImages.{Making}
use Rattle.sx_images.proofs.making.+made.Given as goal

abbrev pub decreases-made : goal.decreases-made
decreases-made l = 2 * depth_of (tree_at (trees l.arena.now) l.term) + 1

abbrev pub decreases-new_image : goal.decreases-new_image
decreases-new_image l = 2 * depth_of (tree_at (trees l.arena.now) l.term)

abbrev pub invariant-new_image-loop-kid : goal.invariant-new_image-loop-kid
invariant-new_image-loop-kid l = Making (table_of l.table) (trees l.initial.arena) l.arena l.notes.items l.parts.items l.kid-items l.kid-index
