use Rattle.std.proofs.Common.{◌-◌, ◌≤◌}
use Rattle.sx_arena.specs.Views.{rules_of, set_modes}
use Rattle.sx_derive.proofs.Resuming.{Reaching}
use Rattle.sx_derive.proofs.reach.reach.Given as goal

abbrev pub invariant-loop-budget : goal.invariant-loop-budget
invariant-loop-budget g l = record {
  less : l.left ≤ l.budget;
  reaching : Reaching (set_modes l.given.rules.now) (rules_of l.given.rules.now) l.given.pairs.now l.given.facts.now l.initial.store l.budget l.initial.tasks.items l.initial.steps l.store (l.budget - l.left) l.steps l.tasks.items;
}

abbrev pub decreases-loop-budget : goal.decreases-loop-budget
decreases-loop-budget g l = l.left
