use Rattle.sx_interface.specs.InterfaceView.{mark_view}
use Rattle.sx_environment.proofs.Comparing.{differ_at}
use Rattle.sx_environment.proofs.seeing.are_same.Goals as goal

pub returns-then-not-is_same : goal.returns-then-not-is_same
returns-then-not-is_same c =
    differ_at mark_view mark_view c.args.one.now c.args.other.now c.loop-i.i c.index-one-i.result
    c.index-other-i.result c.loop-i-test.true c.loop-i.invariant.long c.index-one-i.is
    c.index-other-i.is c.if-not-is_same.ensures
