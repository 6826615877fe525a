use Rattle.sx_rewrite.proofs.accept_laws.accepted_sets_grow.Goals as goal
use Rattle.sx_rewrite.proofs.Growing.{accepted_sets_grow}

pub returns : goal.returns
returns c = accepted_sets_grow
