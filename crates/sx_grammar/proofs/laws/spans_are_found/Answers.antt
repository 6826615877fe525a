use Rattle.sx_grammar.proofs.Completeness.{spans_found}
use Rattle.sx_grammar.proofs.laws.spans_are_found.Goals as goal

pub returns : goal.returns
returns c = spans_found
