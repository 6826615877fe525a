use Rattle.std.proofs.Common.{tests, rules}
use Rattle.sx_grammar.proofs.firsts.is_lexical.Goals as goal

pub returns-then-eq-2 : goal.returns-then-eq-2
returns-then-eq-2 c = search (tests, rules)

pub returns-else-eq-2 : goal.returns-else-eq-2
returns-else-eq-2 c = search (tests, rules)
