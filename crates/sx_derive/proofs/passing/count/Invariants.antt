use Rattle.std.proofs.Common.{◌≡◌, ◌+◌}
use Rattle.sx_derive.proofs.passing.count.Given as goal

abbrev pub invariant-loop : goal.invariant-loop
invariant-loop g l = l.steps ≡ l.initial.steps + l.counter
