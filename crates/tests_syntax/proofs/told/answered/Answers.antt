use Rattle.std.proofs.Common.{subst}
use Rattle.sx_grammar.specs.Parts.{labels}
use Rattle.sx_earley.specs.Shown.{plain}
use Rattle.sx_earley.specs.Tokens.{plain_tokens}
use Rattle.sx_earley.specs.Completed.{sort_number}
use Rattle.sx_forest.specs.Readings.{plain_reading}
use Rattle.sx_forest.specs.Text.{token_texts}
use Rattle.sx_forest.specs.Verdict.{IsReadRefusal}
use Rattle.tests_syntax.proofs.Answering.{only_fits, one_fits, other_fits}
use Rattle.tests_syntax.proofs.told.answered.Goals as goal

pub tree-requires-clause-within : goal.tree-requires-clause-within
tree-requires-clause-within c =
    only_fits c.args.grammar.now.parts c.args.metas.now.stems.items c.args.tokens.now (sort_number c.args.start) (plain_reading c.in-Ok.reading) c.in-Ok.ensures.only

pub trees-requires-clause-within : goal.trees-requires-clause-within
trees-requires-clause-within c =
    one_fits c.args.grammar.now.parts c.args.metas.now.stems.items c.args.tokens.now (sort_number c.args.start)
    (plain_reading c.in-Err-Ambiguous.one) (plain_reading c.in-Err-Ambiguous.other)
    (subst (IsReadRefusal (labels c.args.grammar.now.parts) (token_texts c.args.tokens.now) (plain c.args.grammar.now) (plain_tokens c.args.metas.now.stems.items c.args.tokens.now) (sort_number c.args.start)) c.in-Err-Ambiguous.field-0-is c.in-Err-Ambiguous.ensures.refused).0

pub trees-requires-clause-other_within : goal.trees-requires-clause-other_within
trees-requires-clause-other_within c =
    other_fits c.args.grammar.now.parts c.args.metas.now.stems.items c.args.tokens.now (sort_number c.args.start)
    (plain_reading c.in-Err-Ambiguous.one) (plain_reading c.in-Err-Ambiguous.other)
    (subst (IsReadRefusal (labels c.args.grammar.now.parts) (token_texts c.args.tokens.now) (plain c.args.grammar.now) (plain_tokens c.args.metas.now.stems.items c.args.tokens.now) (sort_number c.args.start)) c.in-Err-Ambiguous.field-0-is c.in-Err-Ambiguous.ensures.refused).0
