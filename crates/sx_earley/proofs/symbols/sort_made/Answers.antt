use Rattle.sx_earley.proofs.Waiting.{none_made}
use Rattle.sx_earley.proofs.symbols.sort_made.Goals as goal

pub returns-in-Some-clause-made : goal.returns-in-Some-clause-made
returns-in-Some-clause-made c = none_made c.args.grammar.now c.args.item c.args.symbol c.in-Some.field-0 c.requires c.in-Some.is
