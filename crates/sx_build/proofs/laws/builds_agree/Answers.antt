use Rattle.sx_build.proofs.Agreeing.{builds_agree}
use Rattle.sx_build.proofs.laws.builds_agree.Goals as goal

pub returns : goal.returns
returns c = builds_agree c.units_agree.ensures c.shows_once.ensures
