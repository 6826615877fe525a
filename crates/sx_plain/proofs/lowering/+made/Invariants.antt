use Rattle.std.proofs.Common.{◌≡◌, ◌+◌, ◌*◌, map, take}
use Rattle.sx_term.specs.Tree.{depth_of, greatest_depth, forest, listed}
use Rattle.sx_term.specs.Term.{tree}
use Rattle.sx_term.specs.Instances.{instance, bound_by}
use Rattle.sx_plain.specs.Plain.{image, images}
use Rattle.sx_plain.specs.Views.{table_of}
use Rattle.sx_plain.proofs.lowering.+made.Given as goal

abbrev pub decreases-made : goal.decreases-made
decreases-made l = depth_of (tree l.term.now) * 4000

abbrev pub decreases-made_node : goal.decreases-made_node
decreases-made_node l = greatest_depth (forest (map tree l.kids.now)) * 4000 + 1

abbrev pub decreases-filled : goal.decreases-filled
decreases-filled l = greatest_depth (forest (map tree l.parts.now)) * 4000 + 2 * depth_of (tree l.flat.now)

abbrev pub decreases-filled_node : goal.decreases-filled_node
decreases-filled_node l = greatest_depth (forest (map tree l.parts.now)) * 4000 + 2 * greatest_depth (forest (map tree l.kids.now)) + 1

abbrev pub invariant-made_node-loop-i : goal.invariant-made_node-loop-i
invariant-made_node-loop-i l = map tree l.parts.items ≡ map (λ t. image (table_of l.table) (tree t)) (take l.i l.kids)

abbrev pub invariant-filled_node-loop-i : goal.invariant-filled_node-loop-i
invariant-filled_node-loop-i l =
    map tree l.made.items ≡ map (λ t. instance (bound_by (listed (images (table_of l.table) (forest (map tree l.parts))))) (tree t)) (take l.i l.kids)
