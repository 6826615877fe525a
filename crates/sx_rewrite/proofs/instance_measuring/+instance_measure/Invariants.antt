use Rattle.std.proofs.Common.{◌≡◌, ◌≤◌, ◌+◌, ◌-◌, ◌^◌, max, min, drop}
use Rattle.sx_term.specs.Tree.{greatest_depth}
use Rattle.sx_term.proofs.Kids.{trees}
use Rattle.sx_plain.specs.Measures.{greatest_with, total_with}
use Rattle.sx_plain.specs.PartMeasures.{depths_of, sizes_of}
use Rattle.sx_rewrite.proofs.instance_measuring.+instance_measure.Given as goal

abbrev pub invariant-loop-kid : goal.invariant-loop-kid
invariant-loop-kid l = record {
  depth : max l.depth (greatest_with (depths_of l.parts) (trees (drop l.kid-index l.kid-items))) ≡ greatest_with (depths_of l.parts) (trees l.kid-items);
  small : l.depth ≤ 1001000 + greatest_depth (trees l.kid-items);
  size : min (l.size + total_with (sizes_of l.parts) (trees (drop l.kid-index l.kid-items))) (2 ^ 64 - 1) ≡ min (total_with (sizes_of l.parts) (trees l.kid-items) + 1) (2 ^ 64 - 1);
  fits : l.size ≤ 2 ^ 64 - 1;
}
