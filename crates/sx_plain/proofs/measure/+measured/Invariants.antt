use Rattle.std.proofs.Common.{◌≡◌, ◌≤◌, ◌+◌, ◌*◌, max, map, drop}
use Rattle.sx_term.specs.Tree.{greatest_depth, forest}
use Rattle.sx_term.specs.Term.{tree}
use Rattle.sx_plain.specs.Measures.{greatest, total, image_depths, image_sizes}
use Rattle.sx_plain.specs.Uses.{used_depth, used_size}
use Rattle.sx_plain.specs.Views.{table_of}
use Rattle.sx_plain.proofs.Measured.{sat}
use Rattle.sx_plain.proofs.measure.+measured.Given as goal

abbrev pub invariant-body_measure-loop-i : goal.invariant-body_measure-loop-i
invariant-body_measure-loop-i l = record {
  depth : max l.depth (used_depth (drop l.i l.entry.uses.items) (drop l.i (image_depths (table_of l.table) (map tree l.parts))))
      ≡ max l.entry.depth (used_depth l.entry.uses.items (image_depths (table_of l.table) (map tree l.parts)));
  small : l.depth ≤ 1001 * greatest_depth (forest (map tree l.parts)) + 1000;
  size : sat (l.size + used_size (drop l.i l.entry.uses.items) (drop l.i (image_sizes (table_of l.table) (map tree l.parts))))
      ≡ sat (l.entry.own + used_size l.entry.uses.items (image_sizes (table_of l.table) (map tree l.parts)));
  fits : sat l.size ≡ l.size;
}

abbrev pub invariant-node_measure-loop-i : goal.invariant-node_measure-loop-i
invariant-node_measure-loop-i l = record {
  depth : max l.depth (greatest (drop l.i (image_depths (table_of l.table) (map tree l.kids)))) ≡ greatest (image_depths (table_of l.table) (map tree l.kids));
  small : l.depth ≤ 1001 * greatest_depth (forest (map tree l.kids));
  size : sat (l.size + total (drop l.i (image_sizes (table_of l.table) (map tree l.kids)))) ≡ sat (total (image_sizes (table_of l.table) (map tree l.kids)) + 1);
  fits : sat l.size ≡ l.size;
}
