use Rattle.sx_derive.proofs.laws.sample_is_found.Goals as goal
use Rattle.sx_derive.proofs.Sampled.{sample_is_found}

pub returns : goal.returns
returns c = sample_is_found
