use Rattle.std.proofs.Common.{◌≡◌, drop}
use Rattle.std.specs.List.{list_any}
use Rattle.sx_grammar.specs.Extended.{is_token}
use Rattle.sx_grammar.proofs.tokens.has_token.Given as goal

abbrev pub invariant-loop-symbol : goal.invariant-loop-symbol
invariant-loop-symbol l = list_any is_token (drop l.symbol-index l.symbols) ≡ list_any is_token l.symbols
