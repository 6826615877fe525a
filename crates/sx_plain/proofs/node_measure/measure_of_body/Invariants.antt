use Rattle.std.proofs.Common.{◌≡◌, ◌≤◌, ◌+◌, max, drop}
use Rattle.sx_plain.specs.Measures.{greatest}
use Rattle.sx_plain.specs.PartMeasures.{depths_of, sizes_of}
use Rattle.sx_plain.specs.Uses.{used_depth, used_size}
use Rattle.sx_plain.proofs.Measured.{sat}
use Rattle.sx_plain.proofs.node_measure.measure_of_body.Given as goal

abbrev pub invariant-loop-i : goal.invariant-loop-i
invariant-loop-i l = record {
  depth : max l.depth (used_depth (drop l.i l.entry.uses.items) (drop l.i (depths_of l.parts))) ≡ max l.entry.depth (used_depth l.entry.uses.items (depths_of l.parts));
  small : l.depth ≤ greatest (depths_of l.parts) + 1000;
  size : sat (l.size + used_size (drop l.i l.entry.uses.items) (drop l.i (sizes_of l.parts))) ≡ sat (l.entry.own + used_size l.entry.uses.items (sizes_of l.parts));
  fits : sat l.size ≡ l.size;
}
