use Rattle.sx_sample.proofs.Bodies.{tokens-counted}
use Rattle.sx_sample.proofs.laws.tokens_are_counted.Goals as goal

pub returns : goal.returns
returns c = tokens-counted
