use Rattle.std.proofs.Common.{◌<◌, length, get_or, arith}
use Rattle.sx_rules.proofs.TallyLaws.{counted_more, small_more}
use Rattle.sx_rules.proofs.discipline.tally.Goals as goal

pub loop-i-preserved : goal.loop-i-preserved
loop-i-preserved c =
    let inside : get_or c.args.all.now c.loop-i.i 0 < length c.loop-i.counts.items = omega (arith, c.if-variable-len.false, c.len.ensures) in
    record {
      counted = counted_more c.loop-i.counts.items c.args.all.now c.loop-i.i c.index_mut.result.now c.loop-i-test.true inside c.index_mut.ensures.value c.loop-i.invariant.counted c.loop-i.invariant.small;
      small = small_more c.loop-i.counts.items c.args.all.now c.loop-i.i c.index_mut.result.now c.loop-i-test.true inside c.index_mut.ensures.value c.loop-i.invariant.counted c.loop-i.invariant.small;
    }
