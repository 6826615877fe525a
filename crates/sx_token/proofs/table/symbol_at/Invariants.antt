use Rattle.std.proofs.Common.{◌≤◌}
use Rattle.sx_token.specs.Symbol.{NoneLonger}
use Rattle.sx_token.proofs.table.symbol_at.Given as goal

abbrev pub invariant-loop-len : goal.invariant-loop-len
invariant-loop-len l = record { in_run : l.len ≤ l.run; none_longer : NoneLonger l.table.literals.now l.text l.len }

abbrev pub decreases-loop-len : goal.decreases-loop-len
decreases-loop-len l = l.len
