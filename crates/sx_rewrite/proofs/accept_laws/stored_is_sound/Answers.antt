use Rattle.sx_rewrite.proofs.accept_laws.stored_is_sound.Goals as goal
use Rattle.sx_rewrite.proofs.Sound.{stored_is_sound}

pub returns : goal.returns
returns c = stored_is_sound
