use Rattle.std.proofs.Common.{◌≡◌, ◌≤◌, ◌+◌, length, drop}
use Rattle.sx_outline.specs.Fitting.{sorts_at}
use Rattle.sx_outline.proofs.role_places.count_at.Given as goal

abbrev pub invariant-loop-i : goal.invariant-loop-i
invariant-loop-i l = record {
  few : l.count ≤ l.i;
  counted : l.count + length (sorts_at l.role (drop l.i l.symbols)) ≡ length (sorts_at l.role l.symbols);
}
