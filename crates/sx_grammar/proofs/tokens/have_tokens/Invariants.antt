use Rattle.std.proofs.Common.{map, take}
use Rattle.sx_grammar.specs.Parts.{line}
use Rattle.sx_grammar.specs.Extended.{LacksTokens}
use Rattle.sx_grammar.specs.Made.{HasNone}
use Rattle.sx_grammar.proofs.tokens.have_tokens.Given as goal

abbrev pub invariant-loop-production : goal.invariant-loop-production
invariant-loop-production l = HasNone LacksTokens (take l.production-index (map line l.productions))
