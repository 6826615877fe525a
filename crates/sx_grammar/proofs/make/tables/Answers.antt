use Rattle.std.proofs.Common.{ap, ◌∙◌}
use Rattle.sx_grammar.specs.Parts.{texts}
use Rattle.sx_grammar.specs.Distinct.{distinct}
use Rattle.sx_grammar.proofs.make.tables.Goals as goal

pub tables_with-requires-clause-texts : goal.tables_with-requires-clause-texts
tables_with-requires-clause-texts c = c.in-Ok.ensures.texts ∙ ap distinct (ap texts c.deref.ensures.value ∙ c.in_ok-texts.ensures.texts)

pub tables_with-requires-clause-literals : goal.tables_with-requires-clause-literals
tables_with-requires-clause-literals c = c.in-Ok.ensures.names ∙ ap distinct (ap texts c.deref.ensures.value ∙ c.in_ok-texts.ensures.texts)
