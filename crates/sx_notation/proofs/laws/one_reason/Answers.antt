use Rattle.sx_notation.proofs.OneReasons as lemmas
use Rattle.sx_notation.proofs.laws.one_reason.Goals as goal

pub returns : goal.returns
returns c = lemmas.one_reason
