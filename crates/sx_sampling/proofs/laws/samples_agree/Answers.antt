use Rattle.sx_sampling.proofs.Agreeing.{samples_agree}
use Rattle.sx_sampling.proofs.laws.samples_agree.Goals as goal

pub returns : goal.returns
returns c = samples_agree c.units_agree.ensures
