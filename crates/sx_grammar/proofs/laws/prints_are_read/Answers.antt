use Rattle.sx_grammar.proofs.Printing.{prints_read}
use Rattle.sx_grammar.proofs.laws.prints_are_read.Goals as goal

pub returns : goal.returns
returns c = prints_read
