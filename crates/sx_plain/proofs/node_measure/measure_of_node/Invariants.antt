use Rattle.std.proofs.Common.{◌≡◌, ◌+◌, max, drop}
use Rattle.sx_plain.specs.Measures.{greatest, total}
use Rattle.sx_plain.specs.PartMeasures.{depths_of, sizes_of}
use Rattle.sx_plain.proofs.Measured.{sat}
use Rattle.sx_plain.proofs.node_measure.measure_of_node.Given as goal

abbrev pub invariant-loop-i : goal.invariant-loop-i
invariant-loop-i l = record {
  depth : max l.depth (greatest (drop l.i (depths_of l.kids))) ≡ greatest (depths_of l.kids);
  size : sat (l.size + total (drop l.i (sizes_of l.kids))) ≡ sat (total (sizes_of l.kids) + 1);
  fits : sat l.size ≡ l.size;
}
