use Rattle.std.proofs.Common.{◌≡◌, length}
use Rattle.sx_forest.proofs.reaches.Reaches.blank.Given as goal

abbrev pub invariant-loop : goal.invariant-loop
invariant-loop l = length l.lists.items ≡ l.counter
