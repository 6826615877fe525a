use Rattle.sx_language.proofs.FirstNamed.{unbound_is_later}
use Rattle.sx_language.proofs.laws.unbound_is_later.Goals as goal

pub returns : goal.returns
returns c = unbound_is_later
