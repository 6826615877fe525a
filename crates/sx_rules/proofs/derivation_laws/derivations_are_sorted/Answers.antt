use Rattle.sx_rules.proofs.derivation_laws.derivations_are_sorted.Goals as goal
use Rattle.sx_rules.proofs.Sorted.{derivations_are_sorted}

pub returns : goal.returns
returns c = derivations_are_sorted
