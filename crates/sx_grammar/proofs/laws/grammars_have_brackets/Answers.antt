use Rattle.sx_grammar.proofs.GrammarLaws.{grammar_brackets}
use Rattle.sx_grammar.proofs.laws.grammars_have_brackets.Goals as goal

pub returns : goal.returns
returns c = grammar_brackets
