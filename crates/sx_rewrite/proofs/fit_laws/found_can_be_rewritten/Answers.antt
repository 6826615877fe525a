use Rattle.sx_rewrite.proofs.FitTerms.{found_can_be_rewritten}
use Rattle.sx_rewrite.proofs.fit_laws.found_can_be_rewritten.Goals as goal

pub returns : goal.returns
returns c = found_can_be_rewritten
