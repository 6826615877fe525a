use Rattle.std.proofs.Common.{◌≡◌}
use Rattle.sx_plain.specs.Uses.{unused_parts}
use Rattle.sx_plain.proofs.make_entry.no_uses.Given as goal

abbrev pub invariant-loop : goal.invariant-loop
invariant-loop l = l.uses.items ≡ unused_parts l.counter
