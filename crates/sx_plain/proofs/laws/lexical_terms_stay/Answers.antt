use Rattle.sx_plain.proofs.laws.lexical_terms_stay.Goals as goal
use Rattle.sx_plain.proofs.Lexical.{lexical_terms_stay}

pub returns : goal.returns
returns c = lexical_terms_stay
