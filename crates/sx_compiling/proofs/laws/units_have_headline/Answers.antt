use Rattle.sx_compiling.proofs.Headlines.{units_have_headline}
use Rattle.sx_compiling.proofs.laws.units_have_headline.Goals as goal

pub returns : goal.returns
returns c = units_have_headline c.interfaces_are_within.ensures
