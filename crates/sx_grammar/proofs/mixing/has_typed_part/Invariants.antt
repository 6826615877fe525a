use Rattle.std.proofs.Common.{◌≡◌, drop}
use Rattle.std.specs.List.{list_any}
use Rattle.sx_grammar.specs.Levels.{is_typed_part}
use Rattle.sx_grammar.proofs.mixing.has_typed_part.Given as goal

abbrev pub invariant-loop-symbol : goal.invariant-loop-symbol
invariant-loop-symbol l = list_any (is_typed_part l.sorts) (drop l.symbol-index l.symbols) ≡ list_any (is_typed_part l.sorts) l.symbols
