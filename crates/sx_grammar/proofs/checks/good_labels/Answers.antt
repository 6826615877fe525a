use Rattle.std.proofs.Common.{tests, rules}
use Rattle.sx_grammar.proofs.checks.good_labels.Goals as goal

pub returns-in_ok-copy-in-Again-clause-refused : goal.returns-in_ok-copy-in-Again-clause-refused
returns-in_ok-copy-in-Again-clause-refused c = search (tests, rules)
