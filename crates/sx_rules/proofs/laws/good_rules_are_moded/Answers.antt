use Rattle.sx_rules.proofs.Refusals.{good_moded}
use Rattle.sx_rules.proofs.laws.good_rules_are_moded.Goals as goal

pub returns : goal.returns
returns c = good_moded
