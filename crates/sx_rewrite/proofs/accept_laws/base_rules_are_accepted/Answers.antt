use Rattle.sx_rewrite.proofs.accept_laws.base_rules_are_accepted.Goals as goal
use Rattle.sx_rewrite.proofs.Growing.{base_rules_are_accepted}

pub returns : goal.returns
returns c = base_rules_are_accepted
