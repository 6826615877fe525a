use Rattle.sx_compile.proofs.Promise.{compiled_has_headline}
use Rattle.sx_compile.proofs.laws.compiled_has_headline.Goals as goal

pub returns : goal.returns
returns c = compiled_has_headline c.units_have_headline.ensures
