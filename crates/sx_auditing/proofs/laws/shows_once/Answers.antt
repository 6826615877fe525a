use Rattle.sx_auditing.proofs.ShowsOnce.{shows-once}
use Rattle.sx_auditing.proofs.laws.shows_once.Goals as goal

pub returns : goal.returns
returns c = shows-once
