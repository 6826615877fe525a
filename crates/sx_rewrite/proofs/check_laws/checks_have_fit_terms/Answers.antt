use Rattle.sx_rewrite.proofs.Checks.{checks_have_fit_terms}
use Rattle.sx_rewrite.proofs.check_laws.checks_have_fit_terms.Goals as goal

pub returns : goal.returns
returns c = checks_have_fit_terms
