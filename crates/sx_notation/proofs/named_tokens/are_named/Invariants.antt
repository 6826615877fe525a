use Rattle.std.proofs.Common.{◌≡◌, drop}
use Rattle.std.specs.List.{AllByRecursion}
use Rattle.sx_notation.specs.ReadAmong.{IsNamed}
use Rattle.sx_notation.proofs.named_tokens.are_named.Given as goal

abbrev pub invariant-loop-i : goal.invariant-loop-i
invariant-loop-i l = (l.copy ≡ l.names) × (AllByRecursion (IsNamed l.names) (drop l.i l.tokens) → AllByRecursion (IsNamed l.names) l.tokens)
