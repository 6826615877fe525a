use Rattle.std.proofs.Common.{◌≡◌, take, map}
use Rattle.sx_rules.specs.Modes.{inputs}
use Rattle.sx_rules.specs.Views.{is_out}
use Rattle.sx_core.proofs.statements.sorts_of_inputs.Given as goal

abbrev pub invariant-loop-i : goal.invariant-loop-i
invariant-loop-i l = l.sorts.items ≡ inputs (map (λ p. is_out p.role) (take l.i l.places)) (map (λ p. p.sort) (take l.i l.places))
