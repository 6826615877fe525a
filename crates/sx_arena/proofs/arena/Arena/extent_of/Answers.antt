use Rattle.std.proofs.Common.{ℕ, ◌+◌, ◌-◌, ◌^◌, min, max, map, drop, ap, ◌∙◌, arith}
use Rattle.sx_term.specs.Tree.{forest, greatest_depth, total_size}
use Rattle.sx_arena.specs.Arena.{trees, tree_at}
use Rattle.sx_arena.proofs.Arenas.{below_zero, depth_read, size_read, depth_step, depth_end, size_step, size_end}
use Rattle.sx_arena.proofs.arena.Arena.extent_of.Goals as goal

pub cell-cell-requires-clause-within : goal.cell-cell-requires-clause-within
cell-cell-requires-clause-within c = below_zero _ _ c.requires.kids c.loop-kid.kid-index c.loop-kid-test.true

pub loop-kid-preserved : goal.loop-kid-preserved
loop-kid-preserved c =
    let ts = trees c.args.self.now in
    let i = c.loop-kid.invariant in
    let d = depth_read ts _ _ c.cell-cell.ensures in
    let s = size_read ts _ _ c.cell-cell.ensures in
    let m = c.max-most.ensures in
    let a = c.saturating_add-total.ensures in
    let low = i.low in
    let few = i.few in
    let rest = drop (c.loop-kid.kid-index + 1) c.args.kids.now in
    record {
      low = omega arith;
      depth = ap (λ (x : ℕ). min (max x (greatest_depth (forest (map (tree_at ts) rest)))) (2 ^ 64 - 1)) m
          ∙ depth_step ts _ _ _ _ _ c.loop-kid-test.true d i.low i.depth;
      few = omega arith;
      size = ap (λ (x : ℕ). min (x + total_size (forest (map (tree_at ts) rest))) (2 ^ 64 - 1)) a
          ∙ size_step ts _ _ _ _ _ c.loop-kid-test.true s i.few i.size;
    }

pub returns-clause-depth : goal.returns-clause-depth
returns-clause-depth c = depth_end (trees c.args.self.now) _ _ _ _ c.loop-kid-test.false c.loop-kid.invariant.low c.loop-kid.invariant.depth

pub returns-clause-size : goal.returns-clause-size
returns-clause-size c = size_end (trees c.args.self.now) _ _ _ _ c.loop-kid-test.false c.loop-kid.invariant.few c.loop-kid.invariant.size
