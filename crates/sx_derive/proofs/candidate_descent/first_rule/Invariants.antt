use Rattle.std.proofs.Common.{◌-◌, length}
use Rattle.sx_arena.specs.Views.{rules_of, set_modes}
use Rattle.sx_derive.specs.Candidates.{goal_in}
use Rattle.sx_derive.proofs.Led.{Leading}
use Rattle.sx_derive.proofs.candidate_descent.first_rule.Given as goal

abbrev pub invariant-loop-rule : goal.invariant-loop-rule
invariant-loop-rule l = Leading (set_modes l.rules) (rules_of l.rules) (goal_in l.initial.store l.form l.terms) l.initial.store l.store l.number

abbrev pub decreases-loop-rule : goal.decreases-loop-rule
decreases-loop-rule l = length (rules_of l.rules) - l.number
