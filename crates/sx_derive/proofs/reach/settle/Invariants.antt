use Rattle.std.proofs.Common.{◌≡◌, ◌+◌, ◌-◌, ◌≤◌, List, length}
use Rattle.sx_rules.specs.Rules.{Judgement}
use Rattle.sx_arena.specs.Views.{rules_of, set_modes}
use Rattle.sx_derive.specs.Givens.{HasFacts}
use Rattle.sx_derive.specs.Tasks.{events_left, TasksFit}
use Rattle.sx_derive.specs.Walk.{tries_then}
use Rattle.sx_derive.proofs.reach.settle.Given as goal

abbrev pub invariant-loop-tasks : goal.invariant-loop-tasks
invariant-loop-tasks g l = record {
  less : l.left ≤ l.initial.left;
  counted : l.steps ≡ l.initial.steps + (l.initial.left - l.left);
  fits : TasksFit (set_modes l.given.rules.now) (rules_of l.given.rules.now) l.store (length l.given.facts.now + length (rules_of l.given.rules.now)) l.tasks.items;
  same : (js : List Judgement) → HasFacts l.given l.store js → events_left (set_modes l.given.rules.now) (rules_of l.given.rules.now) l.given.pairs.now js l.store l.initial.tasks.items ≡ tries_then (l.initial.left - l.left) (events_left (set_modes l.given.rules.now) (rules_of l.given.rules.now) l.given.pairs.now js l.store l.tasks.items);
}

abbrev pub decreases-loop-tasks : goal.decreases-loop-tasks
decreases-loop-tasks g l = length l.tasks.items
