use Rattle.sx_rewrite.proofs.Checks.{found_checks_can_be_rewritten}
use Rattle.sx_rewrite.proofs.check_laws.found_checks_can_be_rewritten.Goals as goal

pub returns : goal.returns
returns c = found_checks_can_be_rewritten
