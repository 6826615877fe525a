use Rattle.sx_grammar.proofs.Soundness.{spans_sound}
use Rattle.sx_grammar.proofs.laws.spans_are_read.Goals as goal

pub returns : goal.returns
returns c = spans_sound
