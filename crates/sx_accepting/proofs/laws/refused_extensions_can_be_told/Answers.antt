use Rattle.sx_accepting.proofs.CanTell.{refused_extensions_can_be_told}
use Rattle.sx_accepting.proofs.laws.refused_extensions_can_be_told.Goals as goal

pub returns : goal.returns
returns c = refused_extensions_can_be_told
