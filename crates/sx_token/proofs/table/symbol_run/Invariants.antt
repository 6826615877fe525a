use Rattle.std.proofs.Common.{◌≡◌, ℕ, ◌-◌, ◌<◌, ◌≤◌, length, get_or, true}
use Rattle.sx_term.specs.Cutting.{is_symbol}
use Rattle.sx_token.proofs.table.symbol_run.Given as goal

abbrev pub invariant-loop-n : goal.invariant-loop-n
invariant-loop-n l = record { in_text : l.n ≤ length l.bytes; symbols : (k : ℕ) → k < l.n → is_symbol (get_or l.bytes k 0) ≡ true }

abbrev pub decreases-loop-n : goal.decreases-loop-n
decreases-loop-n l = length l.bytes - l.n
