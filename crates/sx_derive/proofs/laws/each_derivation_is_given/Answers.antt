use Rattle.sx_derive.proofs.laws.each_derivation_is_given.Goals as goal
use Rattle.sx_derive.proofs.Walked.{each_derivation_is_given}

pub returns : goal.returns
returns c = each_derivation_is_given
