use Rattle.sx_top.proofs.Denying.{denied_unwritten}
use Rattle.sx_top.proofs.laws.denied_are_unwritten.Goals as goal

pub returns : goal.returns
returns c =
    denied_unwritten c.denied_are_unbuilt.ensures c.denied_are_uncompiled.ensures
    c.denied_are_kept.ensures
