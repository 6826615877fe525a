use Rattle.std.proofs.Common.{[], rules}
use Rattle.sx_grammar.proofs.distinct.distinct.Goals as goal

pub returns-clause-texts : goal.returns-clause-texts
returns-clause-texts c = c.filled.ensures.texts [] (search rules) (search rules)

pub returns-clause-names : goal.returns-clause-names
returns-clause-names c = c.filled.ensures.names [] (search rules)
