use Rattle.sx_grammar.proofs.Completeness.{spans_inside}
use Rattle.sx_grammar.proofs.laws.inner_spans_are_found.Goals as goal

pub returns : goal.returns
returns c = spans_inside
