use Rattle.sx_extension.proofs.Going.{extensions_go_on}
use Rattle.sx_extension.proofs.laws.extensions_go_on.Goals as goal

pub returns : goal.returns
returns c = extensions_go_on
