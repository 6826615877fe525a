use Rattle.sx_replay.proofs.Replayed.{derivations_replayed}
use Rattle.sx_replay.proofs.laws.derivations_are_replayed.Goals as goal

pub returns : goal.returns
returns c = derivations_replayed
