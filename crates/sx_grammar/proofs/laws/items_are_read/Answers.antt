use Rattle.sx_grammar.proofs.Soundness.{items_sound}
use Rattle.sx_grammar.proofs.laws.items_are_read.Goals as goal

pub returns : goal.returns
returns c = items_sound
