use Rattle.sx_build.proofs.Headlines.{built_have_headline}
use Rattle.sx_build.proofs.laws.built_have_headline.Goals as goal

pub returns : goal.returns
returns c = built_have_headline c.units_have_headline.ensures
