use Rattle.std.proofs.Common.{◌≡◌, drop}
use Rattle.sx_outline.specs.Fitting.{sorts_at}
use Rattle.sx_outline.proofs.role_places.first_at.Given as goal

abbrev pub invariant-loop-i : goal.invariant-loop-i
invariant-loop-i l = sorts_at l.role (drop l.i l.symbols) ≡ sorts_at l.role l.symbols
