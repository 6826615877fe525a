use Rattle.sx_language.proofs.OneRules.{one_rules}
use Rattle.sx_language.proofs.laws.one_rules.Goals as goal

pub returns : goal.returns
returns c = one_rules
