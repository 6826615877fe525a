use Rattle.sx_lexemes.proofs.Lowered.{lowered_keep_lexemes}
use Rattle.sx_lexemes.proofs.laws.lowered_keep_lexemes.Goals as goal

pub returns : goal.returns
returns c = lowered_keep_lexemes
