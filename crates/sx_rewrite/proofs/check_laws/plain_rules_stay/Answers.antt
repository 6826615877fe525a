use Rattle.sx_rewrite.proofs.LongerTables.{plain_rules_stay}
use Rattle.sx_rewrite.proofs.check_laws.plain_rules_stay.Goals as goal

pub returns : goal.returns
returns c = plain_rules_stay
