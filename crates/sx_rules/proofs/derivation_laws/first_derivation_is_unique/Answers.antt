use Rattle.sx_rules.proofs.Firsts.{one_first}
use Rattle.sx_rules.proofs.derivation_laws.first_derivation_is_unique.Goals as goal

pub returns : goal.returns
returns c = one_first
