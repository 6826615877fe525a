use Rattle.sx_rewrite.proofs.Checks.{longer_tables_are_accepted}
use Rattle.sx_rewrite.proofs.check_laws.longer_tables_are_accepted.Goals as goal

pub returns : goal.returns
returns c = longer_tables_are_accepted
