use Rattle.sx_replay.proofs.Beginnings.{beginnings_within}
use Rattle.sx_replay.proofs.laws.beginnings_are_within.Goals as goal

pub returns : goal.returns
returns c = beginnings_within
