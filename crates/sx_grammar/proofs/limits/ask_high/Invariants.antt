use Rattle.std.proofs.Common.{◌≡◌, drop}
use Rattle.std.specs.List.{list_any}
use Rattle.sx_grammar.specs.High.{asks_high}
use Rattle.sx_grammar.proofs.limits.ask_high.Given as goal

abbrev pub invariant-loop-symbol : goal.invariant-loop-symbol
invariant-loop-symbol l = list_any asks_high (drop l.symbol-index l.symbols) ≡ list_any asks_high l.symbols
