use Rattle.std.proofs.Common.{◌≡◌, ◌+◌, ◌-◌, ◌^◌, ◌≤◌, map, min, max, drop}
use Rattle.sx_term.specs.Tree.{forest, greatest_depth, total_size}
use Rattle.sx_arena.specs.Arena.{trees, tree_at}
use Rattle.sx_arena.proofs.arena.Arena.extent_of.Given as goal

abbrev pub invariant-loop-kid : goal.invariant-loop-kid
invariant-loop-kid l = record {
  low : l.most ≤ 2 ^ 64 - 1;
  depth : min (max l.most (greatest_depth (forest (map (tree_at (trees l.self)) (drop l.kid-index l.kids))))) (2 ^ 64 - 1) ≡ min (greatest_depth (forest (map (tree_at (trees l.self)) l.kids))) (2 ^ 64 - 1);
  few : l.total ≤ 2 ^ 64 - 1;
  size : min (l.total + total_size (forest (map (tree_at (trees l.self)) (drop l.kid-index l.kids)))) (2 ^ 64 - 1) ≡ min (total_size (forest (map (tree_at (trees l.self)) l.kids))) (2 ^ 64 - 1);
}
