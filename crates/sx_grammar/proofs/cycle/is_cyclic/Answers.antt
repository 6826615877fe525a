use Rattle.std.proofs.lemmas.Bool.{false≢true}
use Rattle.sx_grammar.proofs.Climbing.{rises_apart}
use Rattle.sx_grammar.proofs.cycle.is_cyclic.Goals as goal

pub returns-then-rises : goal.returns-then-rises
returns-then-rises c = λ g are. (
  λ is. absurd (false≢true is),
  λ cyclic. absurd (rises_apart g c.args.steps.now are c.args.numbers.now c.requires.numbers c.args.sort (c.rises.ensures.0 c.if-rises.true) cyclic),
)
