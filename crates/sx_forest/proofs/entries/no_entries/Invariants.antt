use Rattle.std.proofs.Common.{◌≡◌, ℕ, [], length}
use Rattle.sx_forest.specs.Rows.{entries_at}
use Rattle.sx_forest.proofs.entries.no_entries.Given as goal

abbrev pub invariant-loop : goal.invariant-loop
invariant-loop l = record {
  long : length l.lists.items ≡ l.counter;
  none : (p : ℕ) → entries_at l.lists.items p ≡ [];
}
