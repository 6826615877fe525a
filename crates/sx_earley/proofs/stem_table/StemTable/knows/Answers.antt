use Rattle.std.proofs.Common.{tests, rules}
use Rattle.sx_earley.proofs.stem_table.StemTable.knows.Goals as goal

pub returns-in-Meta-clause-yes : goal.returns-in-Meta-clause-yes
returns-in-Meta-clause-yes c = search (tests, rules)

pub returns-in-Meta-clause-not : goal.returns-in-Meta-clause-not
returns-in-Meta-clause-not c = search (tests, rules)
