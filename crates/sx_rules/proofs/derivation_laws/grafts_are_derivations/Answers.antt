use Rattle.sx_rules.proofs.derivation_laws.grafts_are_derivations.Goals as goal
use Rattle.sx_rules.proofs.Derived.{grafts_are_derivations}

pub returns : goal.returns
returns c = grafts_are_derivations
