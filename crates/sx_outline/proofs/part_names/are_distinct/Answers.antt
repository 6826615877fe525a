use Rattle.std.proofs.Common.{take}
use Rattle.sx_outline.proofs.NameLaws.{not_distinct, distinct_more}
use Rattle.sx_outline.proofs.part_names.are_distinct.Goals as goal

pub returns-then-is_before : goal.returns-then-is_before
returns-then-is_before c =
    not_distinct c.args.names.now c.loop-i.i c.index-names-i.result c.is_before.result c.loop-i-test.true c.index-names-i.is
    (c.is_before.ensures (take c.loop-i.i c.args.names.now) c.loop-i.invariant.0) c.if-is_before.true

pub loop-i-preserved : goal.loop-i-preserved
loop-i-preserved c =
    distinct_more c.args.names.now c.loop-i.i c.index-names-i.result c.loop-i.places c.push.new.self c.is_before.result c.loop-i-test.true c.index-names-i.is c.loop-i.invariant
    (c.is_before.ensures (take c.loop-i.i c.args.names.now) c.loop-i.invariant.0) c.if-is_before.false c.in_ok-push.ensures
