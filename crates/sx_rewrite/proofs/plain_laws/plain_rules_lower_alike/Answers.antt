use Rattle.sx_rewrite.proofs.plain_laws.plain_rules_lower_alike.Goals as goal
use Rattle.sx_rewrite.proofs.PlainSets.{plain_rules_lower_alike}

pub returns : goal.returns
returns c = plain_rules_lower_alike
