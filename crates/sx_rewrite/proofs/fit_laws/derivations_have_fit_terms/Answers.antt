use Rattle.sx_rewrite.proofs.FitTerms.{derivations_have_fit_terms}
use Rattle.sx_rewrite.proofs.fit_laws.derivations_have_fit_terms.Goals as goal

pub returns : goal.returns
returns c = derivations_have_fit_terms
