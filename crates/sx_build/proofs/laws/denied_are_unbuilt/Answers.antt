use Rattle.sx_build.proofs.Denying.{denied_unwritten}
use Rattle.sx_build.proofs.laws.denied_are_unbuilt.Goals as goal

pub returns : goal.returns
returns c = denied_unwritten c.denied_are_unlisted.ensures c.denying_stays.ensures
