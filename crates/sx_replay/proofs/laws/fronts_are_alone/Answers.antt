use Rattle.sx_replay.proofs.Alone.{fronts_alone}
use Rattle.sx_replay.proofs.laws.fronts_are_alone.Goals as goal

pub returns : goal.returns
returns c = fronts_alone
