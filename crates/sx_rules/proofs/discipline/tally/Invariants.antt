use Rattle.std.proofs.Common.{◌≡◌, ℕ, ◌+◌, ◌<◌, ◌≤◌, length, get_or, drop}
use Rattle.sx_rules.specs.Subjects.{count_in}
use Rattle.sx_rules.proofs.discipline.tally.Given as goal

abbrev pub invariant-loop-i : goal.invariant-loop-i
invariant-loop-i l = record {
  counted : (v : ℕ) → v < length l.counts.items → get_or l.counts.items v 0 + count_in v (drop l.i l.all) ≡ count_in v l.all;
  small : (v : ℕ) → v < length l.counts.items → get_or l.counts.items v 0 ≤ l.i;
}
