use Rattle.sx_language.proofs.UsableRules.{rules_are_usable}
use Rattle.sx_language.proofs.laws.read_rules_are_usable.Goals as goal

pub returns : goal.returns
returns c = rules_are_usable
