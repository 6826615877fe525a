use Rattle.sx_core.proofs.ResolveLaws.{untyped_differs, untyped_more}
use Rattle.sx_core.proofs.resolved.are_untyped.Goals as goal

pub returns-then-not-is_untyped : goal.returns-then-not-is_untyped
returns-then-not-is_untyped c = untyped_differs c.args.sorts.now c.loop-i.i _ c.is_untyped.result c.loop-i-test.true c.if-not-is_untyped.true c.is_untyped.ensures

pub loop-i-preserved : goal.loop-i-preserved
loop-i-preserved c = untyped_more c.args.sorts.now c.loop-i.i _ c.is_untyped.result c.loop-i-test.true c.if-not-is_untyped.false c.is_untyped.ensures c.loop-i.invariant
