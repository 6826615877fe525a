use Rattle.sx_accepting.proofs.AcceptedExtended.{extended_is_accepted}
use Rattle.sx_accepting.proofs.laws.extended_is_accepted.Goals as goal

pub returns : goal.returns
returns c = extended_is_accepted
