use Rattle.std.proofs.Common.{◌≡◌}
use Rattle.sx_plain.specs.Marks.{no_marks}
use Rattle.sx_plain.proofs.dropped.unmarked.Given as goal

abbrev pub invariant-loop : goal.invariant-loop
invariant-loop l = l.marks.items ≡ no_marks l.counter
