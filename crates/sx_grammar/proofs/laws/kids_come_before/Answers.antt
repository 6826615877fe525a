use Rattle.sx_grammar.proofs.Ordering.{kids_before}
use Rattle.sx_grammar.proofs.laws.kids_come_before.Goals as goal

pub returns : goal.returns
returns c = kids_before
