use Rattle.sx_sampling.proofs.Promise.{sampled_have_headline}
use Rattle.sx_sampling.proofs.laws.sampled_have_headline.Goals as goal

pub returns : goal.returns
returns c = sampled_have_headline c.units_have_headline.ensures
