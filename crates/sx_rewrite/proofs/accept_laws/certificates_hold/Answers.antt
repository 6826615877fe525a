use Rattle.sx_rewrite.proofs.accept_laws.certificates_hold.Goals as goal
use Rattle.sx_rewrite.proofs.Sound.{certificates_hold}

pub returns : goal.returns
returns c = certificates_hold
