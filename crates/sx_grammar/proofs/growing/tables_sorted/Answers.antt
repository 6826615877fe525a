use Rattle.sx_grammar.specs.Parts.{parts}
use Rattle.sx_grammar.proofs.growing.tables_sorted.Goals as goal

pub tables_named-requires-clause-labels : goal.tables_named-requires-clause-labels
tables_named-requires-clause-labels c = c.in-Ok-true.ensures c.in-Ok-true.field-0-test (parts c.args.from.now) c.requires.behind c.requires.sorts c.requires.distinct
