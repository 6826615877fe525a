-- Why parts that are no grammar are refused.
use Rattle.std.specs.Prelude.{◌≡◌}
use Rattle.sx_grammar.specs.declared.grammar_error.GrammarError.{GrammarError}
use Rattle.sx_grammar.specs.declared.grammar_error.GrammarError.TheVariants as grammar
use Rattle.sx_notation.specs.declared.notation_error.NotationError.{NotationError}
use Rattle.sx_notation.specs.declared.notation_error.NotationError.TheVariants.{Memory, Grammar}

-- this is the refusal of parts that are no grammar, or memory is lacking
abbrev pub IsGrammarRefusal : GrammarError → NotationError → Type 0
IsGrammarRefusal grammar.Memory e = e ≡ Memory
IsGrammarRefusal x e = e ≡ Grammar x
