use Rattle.sx_notation.proofs.TreeTexts.{two_within}
use Rattle.sx_notation.proofs.telling.why_unread.Goals as goal

pub tree_text-requires-clause-within : goal.tree_text-requires-clause-within
tree_text-requires-clause-within c =
    (two_within c.args.grammar.now.parts c.args.tokens.now c.args.error c.in-Ambiguous.one c.in-Ambiguous.other c.in-Ambiguous.is c.requires.0 c.requires.1 c.requires.2).0

pub tree_text-requires-in-Ambiguous-clause-within : goal.tree_text-requires-in-Ambiguous-clause-within
tree_text-requires-in-Ambiguous-clause-within c =
    (two_within c.args.grammar.now.parts c.args.tokens.now c.args.error c.in-Ambiguous.one c.in-Ambiguous.other c.in-Ambiguous.is c.requires.0 c.requires.1 c.requires.2).1
