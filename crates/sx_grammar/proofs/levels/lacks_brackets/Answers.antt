use Rattle.std.proofs.Common.{tests, rules}
use Rattle.sx_grammar.proofs.levels.lacks_brackets.Goals as goal

pub returns-then-is_none-clause-is : goal.returns-then-is_none-clause-is
returns-then-is_none-clause-is c = search (tests, rules)

pub returns-else-is_none-clause-is : goal.returns-else-is_none-clause-is
returns-else-is_none-clause-is c = search (tests, rules)
