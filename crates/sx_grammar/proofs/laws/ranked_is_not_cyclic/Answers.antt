use Rattle.sx_grammar.proofs.Ordering.{ranked_not_cyclic}
use Rattle.sx_grammar.proofs.laws.ranked_is_not_cyclic.Goals as goal

pub returns : goal.returns
returns c = ranked_not_cyclic
