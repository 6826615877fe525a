use Rattle.sx_rewrite.proofs.Checks.{checks_are_rewritten_alike}
use Rattle.sx_rewrite.proofs.check_laws.checks_are_rewritten_alike.Goals as goal

pub returns : goal.returns
returns c = checks_are_rewritten_alike
