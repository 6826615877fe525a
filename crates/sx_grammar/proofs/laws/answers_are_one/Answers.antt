use Rattle.sx_grammar.proofs.Answering.{answers_agree}
use Rattle.sx_grammar.proofs.laws.answers_are_one.Goals as goal

pub returns : goal.returns
returns c = answers_agree
