use Rattle.sx_grammar.proofs.Deciding.{tallies_counted}
use Rattle.sx_grammar.proofs.laws.tallies_are_counted.Goals as goal

pub returns : goal.returns
returns c = tallies_counted
