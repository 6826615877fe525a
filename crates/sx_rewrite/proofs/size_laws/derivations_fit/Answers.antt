use Rattle.sx_rewrite.proofs.PlainSizes.{derivations_fit}
use Rattle.sx_rewrite.proofs.size_laws.derivations_fit.Goals as goal

pub returns : goal.returns
returns c = derivations_fit
