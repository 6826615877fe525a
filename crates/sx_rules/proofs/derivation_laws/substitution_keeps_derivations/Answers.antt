use Rattle.sx_rules.proofs.derivation_laws.substitution_keeps_derivations.Goals as goal
use Rattle.sx_rules.proofs.Derived.{substitution_keeps_derivations}

pub returns : goal.returns
returns c = substitution_keeps_derivations
