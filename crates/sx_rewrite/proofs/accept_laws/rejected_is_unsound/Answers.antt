use Rattle.sx_rewrite.proofs.accept_laws.rejected_is_unsound.Goals as goal
use Rattle.sx_rewrite.proofs.Sound.{rejected_is_unsound}

pub returns : goal.returns
returns c = rejected_is_unsound
