use Rattle.sx_rewrite.proofs.accept_laws.growth_goes_on.Goals as goal
use Rattle.sx_rewrite.proofs.Growing.{growth_goes_on}

pub returns : goal.returns
returns c = growth_goes_on
