use Rattle.sx_rules.proofs.Refusals.{not_refused}
use Rattle.sx_rules.proofs.laws.rule_sets_are_not_refused.Goals as goal

pub returns : goal.returns
returns c = not_refused
