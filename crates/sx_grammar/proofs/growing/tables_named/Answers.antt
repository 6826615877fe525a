use Rattle.sx_grammar.proofs.growing.tables_named.Goals as goal

pub returns-in-Ok-clause-tables : goal.returns-in-Ok-clause-tables
returns-in-Ok-clause-tables c = λ base le. c.in-Ok.ensures.tables base le
