use Rattle.std.proofs.Common.{tests, rules}
use Rattle.sx_forest.proofs.stripping.variable.Goals as goal

pub returns-clause-ok : goal.returns-clause-ok
returns-clause-ok c = search (tests, rules)
