use Rattle.std.proofs.Common.{◌≡◌, ◌+◌, ◌*◌, length, map, take}
use Rattle.sx_term.specs.Tree.{depth_of, greatest_depth, forest, listed}
use Rattle.sx_term.specs.Term.{tree}
use Rattle.sx_term.specs.Instances.{instance, bound_by}
use Rattle.sx_plain.specs.Plain.{image, images}
use Rattle.sx_plain.specs.Views.{table_of}
use Rattle.sx_environment.proofs.image_comparing.+is_image.Given as goal

abbrev pub decreases-is_image : goal.decreases-is_image
decreases-is_image l = depth_of (tree l.term.now) * 4000

abbrev pub decreases-is_node_image : goal.decreases-is_node_image
decreases-is_node_image l = greatest_depth (forest (map tree l.kids.now)) * 4000 + 2

abbrev pub decreases-are_images : goal.decreases-are_images
decreases-are_images l = greatest_depth (forest (map tree l.terms.now)) * 4000 + 1

abbrev pub decreases-is_filled : goal.decreases-is_filled
decreases-is_filled l = greatest_depth (forest (map tree l.parts.now)) * 4000 + 3 * depth_of
    (tree l.flat.now)

abbrev pub decreases-is_filled_node : goal.decreases-is_filled_node
decreases-is_filled_node l = greatest_depth (forest (map tree l.parts.now)) * 4000 + 3 *
    greatest_depth (forest (map tree l.kids.now)) + 2

abbrev pub decreases-are_filled : goal.decreases-are_filled
decreases-are_filled l = greatest_depth (forest (map tree l.parts.now)) * 4000 + 3 * greatest_depth
    (forest (map tree l.flats.now)) + 1

abbrev pub invariant-are_images-loop-i : goal.invariant-are_images-loop-i
invariant-are_images-loop-i l = record {
  long : length l.terms ≡ length l.others;
  same : map (λ t. image (table_of l.table) (tree t)) (take l.i l.terms) ≡ map tree
      (take l.i l.others);
}

abbrev pub invariant-are_filled-loop-i : goal.invariant-are_filled-loop-i
invariant-are_filled-loop-i l = record {
  long : length l.flats ≡ length l.others;
  same :
      map (λ t. instance (bound_by (listed (images (table_of l.table) (forest (map tree l.parts)))))
      (tree t)) (take l.i l.flats) ≡ map tree (take l.i l.others);
}
