use Rattle.std.proofs.Common.{◌≡◌, drop}
use Rattle.sx_outline.specs.Fitting.{parts_of_symbols}
use Rattle.sx_outline.proofs.kids.next_kid.Given as goal

abbrev pub invariant-loop-i : goal.invariant-loop-i
invariant-loop-i l = parts_of_symbols (drop l.i l.symbols) ≡ parts_of_symbols l.symbols
