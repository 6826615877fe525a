use Rattle.std.proofs.Common.{◌≡◌, ◌+◌, max, drop}
use Rattle.sx_rules.specs.ProofView.{boxed}
use Rattle.sx_rewrite.specs.Counts.{own_nodes_of, own_height_of}
use Rattle.sx_rewrite.specs.Sizes.{in_u128}
use Rattle.sx_rewrite.proofs.Noted.{noted_in}
use Rattle.sx_rewrite.proofs.sizing.+note.Given as goal

abbrev pub invariant-loop-kid : goal.invariant-loop-kid
invariant-loop-kid l = record {
  nodes : in_u128 (l.nodes + own_nodes_of (boxed (drop l.kid-index l.kid-items))) ≡ in_u128 (own_nodes_of (boxed l.kid-items) + 1);
  within : in_u128 l.nodes ≡ l.nodes;
  height : max l.height (own_height_of (boxed (drop l.kid-index l.kid-items))) ≡ own_height_of (boxed l.kid-items);
  uses : noted_in (boxed (drop l.kid-index l.kid-items)) (l.above + 1) 0 l.uses.items ≡ noted_in (boxed l.kid-items) (l.above + 1) 0 l.fn.uses.items;
}
