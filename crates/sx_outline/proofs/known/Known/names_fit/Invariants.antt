use Rattle.std.proofs.Common.{drop, ◌↔◌}
use Rattle.sx_outline.specs.Fitting.{NamesFit, parts_of_symbols}
use Rattle.sx_outline.specs.View.{known}
use Rattle.sx_outline.proofs.known.Known.names_fit.Given as goal

abbrev pub invariant-loop-i : goal.invariant-loop-i
invariant-loop-i l = NamesFit (known l.self) (drop l.i l.names) (parts_of_symbols l.rest) ↔ NamesFit (known l.self) l.names (parts_of_symbols l.symbols)
