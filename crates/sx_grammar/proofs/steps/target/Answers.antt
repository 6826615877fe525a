use Rattle.std.proofs.Common.{tests, rules}
use Rattle.sx_grammar.proofs.steps.target.Goals as goal

pub returns-then-count-own : goal.returns-then-count-own
returns-then-count-own c = search (tests, rules)

pub returns-else-count-own : goal.returns-else-count-own
returns-else-count-own c = search (tests, rules)
