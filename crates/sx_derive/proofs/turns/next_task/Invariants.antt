use Rattle.std.proofs.Common.{◌≡◌, ◌+◌, ◌-◌, ◌≤◌, List, drop, length}
use Rattle.sx_rules.specs.Rules.{Judgement}
use Rattle.sx_derive.specs.Givens.{HasFacts}
use Rattle.sx_derive.specs.declared.store.Store.{Store}
use Rattle.sx_derive.specs.Tasks.{events_left, TasksFit, Piled}
use Rattle.sx_derive.specs.Turns.{AreKeptBelow}
use Rattle.sx_derive.specs.Walk.{tries_then}
use Rattle.sx_arena.specs.Views.{rules_of, set_modes}
use Rattle.sx_derive.proofs.turns.next_task.Given as goal

abbrev pub invariant-loop-popped : goal.invariant-loop-popped
invariant-loop-popped l = record {
  less : l.left ≤ l.initial.left;
  below : AreKeptBelow l.base l.initial.tasks.items l.tasks.items;
  same : (js : List Judgement) → HasFacts l.given l.store js →
      events_left (set_modes l.given.rules.now) (rules_of l.given.rules.now) l.given.pairs.now js l.store (drop l.base l.initial.tasks.items) ≡ tries_then (l.initial.left - l.left) (events_left (set_modes l.given.rules.now) (rules_of l.given.rules.now) l.given.pairs.now js l.store (drop l.base l.tasks.items));
  fits : TasksFit (set_modes l.given.rules.now) (rules_of l.given.rules.now) l.store (length l.given.facts.now + length (rules_of l.given.rules.now)) (drop l.base l.tasks.items);
  piled : (first : Store) → Piled (set_modes l.given.rules.now) (rules_of l.given.rules.now) (length l.given.facts.now + length (rules_of l.given.rules.now)) first (drop l.base l.initial.tasks.items) l.store → Piled (set_modes l.given.rules.now) (rules_of l.given.rules.now) (length l.given.facts.now + length (rules_of l.given.rules.now)) first (drop l.base l.tasks.items) l.store;
}

abbrev pub decreases-loop-popped : goal.decreases-loop-popped
decreases-loop-popped l = length (drop l.base l.tasks.items)
