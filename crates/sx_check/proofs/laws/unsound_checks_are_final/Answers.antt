use Rattle.sx_check.proofs.TypeErrors.{check_errors_are_final}
use Rattle.sx_check.proofs.laws.unsound_checks_are_final.Goals as goal

pub returns : goal.returns
returns c = check_errors_are_final
