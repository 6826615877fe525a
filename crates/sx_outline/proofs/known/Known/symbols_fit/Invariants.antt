use Rattle.std.proofs.Common.{◌↔◌, drop}
use Rattle.std.specs.List.{AllByRecursion}
use Rattle.sx_outline.specs.Fitting.{SymbolFits}
use Rattle.sx_outline.specs.View.{known}
use Rattle.sx_outline.proofs.known.Known.symbols_fit.Given as goal

abbrev pub invariant-loop-i : goal.invariant-loop-i
invariant-loop-i l = AllByRecursion (SymbolFits (known l.self)) (drop l.i l.symbols) ↔ AllByRecursion (SymbolFits (known l.self)) l.symbols
