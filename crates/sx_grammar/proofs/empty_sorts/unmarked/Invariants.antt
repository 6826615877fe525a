use Rattle.std.proofs.Common.{◌≡◌, take}
use Rattle.sx_grammar.specs.Cycles.{unmarked}
use Rattle.sx_grammar.proofs.empty_sorts.unmarked.Given as goal

abbrev pub invariant-loop-symbol : goal.invariant-loop-symbol
invariant-loop-symbol l = l.count ≡ unmarked l.marks (take l.symbol-index l.symbols)
