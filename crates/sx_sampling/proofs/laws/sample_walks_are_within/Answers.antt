use Rattle.sx_sampling.proofs.FewTries.{sample_walks_are_within}
use Rattle.sx_sampling.proofs.laws.sample_walks_are_within.Goals as goal

pub returns : goal.returns
returns c = sample_walks_are_within c.units_walks_are_within.ensures
