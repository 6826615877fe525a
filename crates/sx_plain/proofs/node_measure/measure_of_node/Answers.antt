use Rattle.std.proofs.Common.{arith}
use Rattle.sx_plain.specs.PartMeasures.{depths_of, sizes_of}
use Rattle.sx_plain.proofs.Measured.{greatest-step, total-step}
use Rattle.sx_plain.proofs.PartLaws.{depth-part, size-part, many-depths, many-sizes}
use Rattle.sx_plain.proofs.node_measure.measure_of_node.Goals as goal

pub loop-i-preserved : goal.loop-i-preserved
loop-i-preserved c =
    let l = c.loop-i-test.true in
    let ld = many-depths c.args.kids.now in
    let ls = many-sizes c.args.kids.now in
    let sd = greatest-step (depths_of c.args.kids.now) _ _ (omega arith) (depth-part _ _ _ l c.measure_at-measure.ensures) in
    let ss = total-step (sizes_of c.args.kids.now) _ _ (omega arith) (size-part _ _ _ l c.measure_at-measure.ensures) in
    let m = c.max-depth.ensures in
    let w = c.saturating_add-size.ensures in
    let vd = c.loop-i.invariant.depth in
    let vz = c.loop-i.invariant.size in
    record {
      depth = omega arith;
      size = omega arith;
      fits = omega arith;
    }
