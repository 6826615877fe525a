use Rattle.sx_rewrite.proofs.PlainSizes.{plain_rules_count_alike}
use Rattle.sx_rewrite.proofs.size_laws.plain_rules_count_alike.Goals as goal

pub returns : goal.returns
returns c = plain_rules_count_alike
