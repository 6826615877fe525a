use Rattle.std.proofs.Common.{◌≡◌, ◌++◌, drop}
use Rattle.std.specs.Prelude.{flat_map}
use Rattle.sx_grammar.specs.Parts.{texts, symbol_sorts}
use Rattle.sx_grammar.proofs.standing.add_sorts.Given as goal

abbrev pub invariant-loop-symbol : goal.invariant-loop-symbol
invariant-loop-symbol l = texts l.out.items ++ flat_map symbol_sorts (drop l.symbol-index l.symbols) ≡ texts l.fn.out.items ++ flat_map symbol_sorts l.symbols
