use Rattle.sx_lexemes.proofs.Derived.{derived_keep_lexemes}
use Rattle.sx_lexemes.proofs.laws.derived_keep_lexemes.Goals as goal

pub returns : goal.returns
returns c = derived_keep_lexemes
