use Rattle.sx_rules.proofs.derivation_laws.discipline_suffices.Goals as goal
use Rattle.sx_rules.proofs.Disciplined.{discipline_suffices}

pub returns : goal.returns
returns c = discipline_suffices
