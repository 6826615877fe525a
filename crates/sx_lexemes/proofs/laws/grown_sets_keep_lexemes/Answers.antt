use Rattle.sx_lexemes.proofs.Grown.{grown_sets_keep_lexemes}
use Rattle.sx_lexemes.proofs.laws.grown_sets_keep_lexemes.Goals as goal

pub returns : goal.returns
returns c = grown_sets_keep_lexemes
