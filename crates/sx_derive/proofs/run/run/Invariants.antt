use Rattle.std.proofs.Common.{◌≤◌, List, drop}
use Rattle.sx_rules.specs.Rules.{Judgement}
use Rattle.sx_arena.specs.Views.{rules_of, set_modes}
use Rattle.sx_derive.specs.Runs.{StandFrom}
use Rattle.sx_derive.specs.Turns.{AreKeptBelow}
use Rattle.sx_derive.specs.declared.store.Store.{Store}
use Rattle.sx_derive.proofs.Running.{Running}
use Rattle.sx_derive.proofs.run.run.Given as goal

abbrev pub invariant-loop-task : goal.invariant-loop-task
invariant-loop-task l = record {
  below : AreKeptBelow l.base l.initial.tasks.items l.tasks.items;
  less : l.tries ≤ l.initial.tries;
  running : (first : Store) (js : List Judgement) → StandFrom l.given first js (drop l.base l.initial.tasks.items) l.initial.store →
      Running (set_modes l.given.rules.now) (rules_of l.given.rules.now) l.given.pairs.now l.given.facts.now js first l.initial.store l.initial.tries (drop l.base l.initial.tasks.items) l.store l.tries (drop l.base l.tasks.items);
}

abbrev pub decreases-loop-task : goal.decreases-loop-task
decreases-loop-task l = l.tries
