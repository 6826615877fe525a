use Rattle.std.proofs.Common.{tests, rules}
use Rattle.sx_earley.proofs.symbols.makes.Goals as goal

pub returns-then-production-sort : goal.returns-then-production-sort
returns-then-production-sort c = search (tests, rules)

pub returns-else-production-sort : goal.returns-else-production-sort
returns-else-production-sort c = search (tests, rules)
