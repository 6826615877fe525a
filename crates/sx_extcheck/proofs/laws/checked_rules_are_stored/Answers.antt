use Rattle.sx_extcheck.proofs.StoredRules.{checked-stored}
use Rattle.sx_extcheck.proofs.laws.checked_rules_are_stored.Goals as goal

pub returns : goal.returns
returns c = λ k ext base plain s h. checked-stored k ext base plain s h
