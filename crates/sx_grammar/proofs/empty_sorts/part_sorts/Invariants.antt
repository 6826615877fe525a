use Rattle.std.proofs.Common.{take}
use Rattle.sx_grammar.specs.Cycles.{ArePartsOf}
use Rattle.sx_grammar.proofs.empty_sorts.part_sorts.Given as goal

abbrev pub invariant-loop-symbol : goal.invariant-loop-symbol
invariant-loop-symbol l = ArePartsOf (take l.symbol-index l.symbols) l.sorts.items
