use Rattle.std.proofs.Common.{◌∙◌}
use Rattle.sx_grammar.proofs.distinct.distinct_behind.Goals as goal

pub returns-in-Ok-clause-texts : goal.returns-in-Ok-clause-texts
returns-in-Ok-clause-texts c = λ start same first. c.filled.ensures.texts start (c.in_ok-out.ensures ∙ same) (c.in-Ok.ensures ∙ first)

pub returns-in-Ok-clause-names : goal.returns-in-Ok-clause-names
returns-in-Ok-clause-names c = λ start first. c.filled.ensures.names start (c.in-Ok.ensures ∙ first)
