use Rattle.std.proofs.Common.{◌≡◌, ◌+◌, ◌-◌, ◌<◌, ◌++◌, ◌∷◌, [], List, drop, length, Some, None, arith}
use Rattle.sx_rules.specs.Rules.{Judgement}
use Rattle.sx_arena.specs.Views.{rules_of, set_modes}
use Rattle.sx_arena.proofs.Growing.{extends-length}
use Rattle.sx_arena.proofs.Parted.{pairs_more_terms}
use Rattle.sx_derive.specs.Givens.{HasFacts}
use Rattle.sx_derive.specs.Runs.{StandFrom}
use Rattle.sx_derive.specs.declared.store.Store.{Store}
use Rattle.sx_derive.specs.Tasks.{TasksFit}
use Rattle.sx_derive.specs.Turns.{AreKeptBelow}
use Rattle.sx_derive.proofs.Above.{kept_same, kept_then, kept_more, above_more}
use Rattle.sx_derive.proofs.Turned.{fits_pop, turned_on}
use Rattle.sx_derive.proofs.Running.{Running, takes_try, running_first, running_facts, running_fits, running_popped, running_end, running_cut, running_spent, running_more, running_ends}
use Rattle.sx_derive.proofs.run.run.Goals as goal
use Rattle.sx_derive.proofs.run.run.Goals.{At-loop-task, In-Some, After-cut}

-- the facts at the task
facts_at : (c : At-loop-task) (first : Store) (js : List Judgement) (r : StandFrom c.args.given.now first js (drop c.args.base c.args.tasks.now.items) c.args.store.now) → HasFacts c.args.given.now c.loop-task.store js
facts_at c first js r = running_facts (set_modes c.args.given.now.rules.now) (rules_of c.args.given.now.rules.now) c.args.given.now.pairs.now c.args.given.now.facts.now js first c.args.store.now c.args.tries.now (drop c.args.base c.args.tasks.now.items) r.facts c.loop-task.store c.loop-task.tries (drop c.args.base c.loop-task.tasks.items) (c.loop-task.invariant.running first js r)

-- the walk after the tries that were passed over
popped : (c : In-Some) (first : Store) (js : List Judgement) (r : StandFrom c.args.given.now first js (drop c.args.base c.args.tasks.now.items) c.args.store.now) → Running (set_modes c.args.given.now.rules.now) (rules_of c.args.given.now.rules.now) c.args.given.now.pairs.now c.args.given.now.facts.now js first c.args.store.now c.args.tries.now (drop c.args.base c.args.tasks.now.items) c.loop-task.store c.next_task.new.left (drop c.args.base c.next_task.new.tasks.items ++ c.in-Some.task ∷ [])
popped c first js r =
    let x = c.in-Some.ensures.less in
    let e : c.loop-task.tries ≡ (c.loop-task.tries - c.next_task.new.left) + c.next_task.new.left = omega arith in
    let f = running_facts (set_modes c.args.given.now.rules.now) (rules_of c.args.given.now.rules.now) c.args.given.now.pairs.now c.args.given.now.facts.now js first c.args.store.now c.args.tries.now (drop c.args.base c.args.tasks.now.items) r.facts c.loop-task.store c.loop-task.tries (drop c.args.base c.loop-task.tasks.items) (c.loop-task.invariant.running first js r) in
    running_popped (set_modes c.args.given.now.rules.now) (rules_of c.args.given.now.rules.now) c.args.given.now.pairs.now c.args.given.now.facts.now js first c.args.store.now c.args.tries.now (drop c.args.base c.args.tasks.now.items) r.facts c.loop-task.store c.loop-task.tries (drop c.args.base c.loop-task.tasks.items) (c.loop-task.invariant.running first js r) (c.loop-task.tries - c.next_task.new.left) c.next_task.new.left e (drop c.args.base c.next_task.new.tasks.items) c.in-Some.task (c.in-Some.ensures.popped js f)

-- the task has a candidate
there : (c : In-Some) → c.in-Some.task.next < length c.args.given.now.facts.now + length (rules_of c.args.given.now.rules.now)
there c =
    let s = c.requires.stands in
    (c.in-Some.ensures.popped s.1 (running_facts (set_modes c.args.given.now.rules.now) (rules_of c.args.given.now.rules.now) c.args.given.now.pairs.now c.args.given.now.facts.now s.1 s.0 c.args.store.now c.args.tries.now (drop c.args.base c.args.tasks.now.items) s.2.facts c.loop-task.store c.loop-task.tries (drop c.args.base c.loop-task.tasks.items) (c.loop-task.invariant.running s.0 s.1 s.2))).0

-- the walk after the cut
after_cut : (c : After-cut) → ((first : Store) (js : List Judgement) (r : StandFrom c.args.given.now first js (drop c.args.base c.args.tasks.now.items) c.args.store.now) → Running (set_modes c.args.given.now.rules.now) (rules_of c.args.given.now.rules.now) c.args.given.now.pairs.now c.args.given.now.facts.now js first c.args.store.now c.args.tries.now (drop c.args.base c.args.tasks.now.items) c.loop-task.store c.next_task.new.left (drop c.args.base c.next_task.new.tasks.items ++ c.in-Some.task ∷ [])) →
    (first : Store) (js : List Judgement) (r : StandFrom c.args.given.now first js (drop c.args.base c.args.tasks.now.items) c.args.store.now) → Running (set_modes c.args.given.now.rules.now) (rules_of c.args.given.now.rules.now) c.args.given.now.pairs.now c.args.given.now.facts.now js first c.args.store.now c.args.tries.now (drop c.args.base c.args.tasks.now.items) c.cut.new.self c.next_task.new.left (drop c.args.base c.next_task.new.tasks.items ++ c.in-Some.task ∷ [])
after_cut c w first js r = running_cut (set_modes c.args.given.now.rules.now) (rules_of c.args.given.now.rules.now) c.args.given.now.pairs.now c.args.given.now.facts.now js first c.args.store.now c.args.tries.now (drop c.args.base c.args.tasks.now.items) r.facts c.loop-task.store c.next_task.new.left c.in-Some.task (drop c.args.base c.next_task.new.tasks.items) (w first js r) r.pairs c.cut.new.self c.cut.ensures

-- the facts are in the store that was cut, and the tasks before that one stand in it
facts_cut : (c : After-cut) (first : Store) (js : List Judgement) (r : StandFrom c.args.given.now first js (drop c.args.base c.args.tasks.now.items) c.args.store.now) → Running (set_modes c.args.given.now.rules.now) (rules_of c.args.given.now.rules.now) c.args.given.now.pairs.now c.args.given.now.facts.now js first c.args.store.now c.args.tries.now (drop c.args.base c.args.tasks.now.items) c.cut.new.self c.next_task.new.left (drop c.args.base c.next_task.new.tasks.items ++ c.in-Some.task ∷ []) → HasFacts c.args.given.now c.cut.new.self js
facts_cut c first js r w = running_facts (set_modes c.args.given.now.rules.now) (rules_of c.args.given.now.rules.now) c.args.given.now.pairs.now c.args.given.now.facts.now js first c.args.store.now c.args.tries.now (drop c.args.base c.args.tasks.now.items) r.facts c.cut.new.self c.next_task.new.left (drop c.args.base c.next_task.new.tasks.items ++ c.in-Some.task ∷ []) w

rest_fit : (c : After-cut) (first : Store) (js : List Judgement) (r : StandFrom c.args.given.now first js (drop c.args.base c.args.tasks.now.items) c.args.store.now) → Running (set_modes c.args.given.now.rules.now) (rules_of c.args.given.now.rules.now) c.args.given.now.pairs.now c.args.given.now.facts.now js first c.args.store.now c.args.tries.now (drop c.args.base c.args.tasks.now.items) c.cut.new.self c.next_task.new.left (drop c.args.base c.next_task.new.tasks.items ++ c.in-Some.task ∷ []) → TasksFit (set_modes c.args.given.now.rules.now) (rules_of c.args.given.now.rules.now) c.cut.new.self (length c.args.given.now.facts.now + length (rules_of c.args.given.now.rules.now)) (drop c.args.base c.next_task.new.tasks.items)
rest_fit c first js r w = (fits_pop _ _ _ c.cut.new.self (drop c.args.base c.next_task.new.tasks.items) c.in-Some.task (running_fits (set_modes c.args.given.now.rules.now) (rules_of c.args.given.now.rules.now) c.args.given.now.pairs.now c.args.given.now.facts.now js first c.args.store.now c.args.tries.now (drop c.args.base c.args.tasks.now.items) r.facts c.cut.new.self c.next_task.new.left (drop c.args.base c.next_task.new.tasks.items ++ c.in-Some.task ∷ []) w)).0

-- those below the base are kept
kept : (c : In-Some) → AreKeptBelow c.args.base c.args.tasks.now.items c.next_task.new.tasks.items
kept c = kept_then _ _ _ _ c.loop-task.invariant.below c.in-Some.ensures.below

pub loop-task-init : goal.loop-task-init
loop-task-init c = record {
  below = kept_same _ _ c.requires.base;
  less = (omega arith);
  running = λ first js r. running_first (set_modes c.args.given.now.rules.now) (rules_of c.args.given.now.rules.now) c.args.given.now.pairs.now c.args.given.now.facts.now js first c.args.store.now c.args.tries.now (drop c.args.base c.args.tasks.now.items) r.piled;
}

pub next_task-requires-clause-store : goal.next_task-requires-clause-store
next_task-requires-clause-store c = (let s = c.requires.stands in c.loop-task.invariant.running s.0 s.1 s.2).grows.store

pub next_task-requires-clause-tasks : goal.next_task-requires-clause-tasks
next_task-requires-clause-tasks c =
    let s = c.requires.stands in
    running_fits (set_modes c.args.given.now.rules.now) (rules_of c.args.given.now.rules.now) c.args.given.now.pairs.now c.args.given.now.facts.now s.1 s.0 c.args.store.now c.args.tries.now (drop c.args.base c.args.tasks.now.items) s.2.facts c.loop-task.store c.loop-task.tries (drop c.args.base c.loop-task.tasks.items) (c.loop-task.invariant.running s.0 s.1 s.2)

pub returns-then-tries-eq0-clause-run : goal.returns-then-tries-eq0-clause-run
returns-then-tries-eq0-clause-run c = λ first js r.
    let w = (goal.at.returns-then-tries-eq0-clause-run c).In-Some in
    running_spent (set_modes c.args.given.now.rules.now) (rules_of c.args.given.now.rules.now) c.args.given.now.pairs.now c.args.given.now.facts.now js first c.args.store.now c.args.tries.now (drop c.args.base c.args.tasks.now.items) r.facts c.loop-task.store c.next_task.new.left c.in-Some.task (drop c.args.base c.next_task.new.tasks.items) (popped w first js r) (there w) c.if-tries-eq0.true

pub turn-requires-clause-facts : goal.turn-requires-clause-facts
turn-requires-clause-facts c =
    let s = c.requires.stands in
    let at = goal.at.turn-requires-clause-facts c in
    (s.1, facts_cut at.After-cut s.0 s.1 s.2 (after_cut at.After-cut (popped at.In-Some) s.0 s.1 s.2))

pub turn-requires-clause-store : goal.turn-requires-clause-store
turn-requires-clause-store c =
    let s = c.requires.stands in
    let at = goal.at.turn-requires-clause-store c in
    (after_cut at.After-cut (popped at.In-Some) s.0 s.1 s.2).grows.store

pub turn-requires-clause-pairs : goal.turn-requires-clause-pairs
turn-requires-clause-pairs c =
    let s = c.requires.stands in
    let at = goal.at.turn-requires-clause-pairs c in
    let w = after_cut at.After-cut (popped at.In-Some) s.0 s.1 s.2 in
    pairs_more_terms _ _ (extends-length _ _ w.grows.trees) _ s.2.pairs

pub turn-requires-clause-task : goal.turn-requires-clause-task
turn-requires-clause-task c =
    let s = c.requires.stands in
    let at = goal.at.turn-requires-clause-task c in
    let w = after_cut at.After-cut (popped at.In-Some) s.0 s.1 s.2 in
    (fits_pop _ _ _ c.cut.new.self (drop c.args.base c.next_task.new.tasks.items) c.in-Some.task (running_fits (set_modes c.args.given.now.rules.now) (rules_of c.args.given.now.rules.now) c.args.given.now.pairs.now c.args.given.now.facts.now s.1 s.0 c.args.store.now c.args.tries.now (drop c.args.base c.args.tasks.now.items) s.2.facts c.cut.new.self c.next_task.new.left (drop c.args.base c.next_task.new.tasks.items ++ c.in-Some.task ∷ []) w)).1

pub turn-requires-clause-next : goal.turn-requires-clause-next
turn-requires-clause-next c = there (goal.at.turn-requires-clause-next c).In-Some

pub loop-task-preserved : goal.loop-task-preserved
loop-task-preserved c =
    let at = goal.at.loop-task-preserved c in
    let k = kept at.In-Some in
    let q = rw c.in-Ok-None.field-0-is at c.in-Ok-None.ensures in
    let e = above_more c.args.base c.next_task.new.tasks.items c.turn.new.tasks.items q.0 k.reaches q.1 in
    let x = c.in-Some.ensures.less in
    let y = c.loop-task.invariant.less in
    record {
      below = kept_more _ _ _ _ q.0 k q.1;
      less = (omega arith);
      running = λ first js r.
          let w = after_cut at.After-cut (popped at.In-Some) first js r in
          let l : 0 < c.next_task.new.left = (let z = c.if-tries-eq0.false in omega arith) in
          running_more (set_modes c.args.given.now.rules.now) (rules_of c.args.given.now.rules.now) c.args.given.now.pairs.now c.args.given.now.facts.now js first c.args.store.now c.args.tries.now (drop c.args.base c.args.tasks.now.items) r.facts c.cut.new.self c.next_task.new.left c.in-Some.task (drop c.args.base c.next_task.new.tasks.items) w l c.turn.new.store (drop c.args.base c.turn.new.tasks.items)
          (turned_on (set_modes c.args.given.now.rules.now) (rules_of c.args.given.now.rules.now) c.args.given.now.pairs.now js (length c.args.given.now.facts.now + length (rules_of c.args.given.now.rules.now)) c.cut.new.self c.turn.new.store c.in-Some.task (drop c.args.base c.next_task.new.tasks.items) q.0 (drop c.args.base c.turn.new.tasks.items) None e (q.2 js (facts_cut at.After-cut first js r w) (drop c.args.base c.next_task.new.tasks.items) (rest_fit at.After-cut first js r w)));
    }

pub returns-in-Ok-Some-clause-run : goal.returns-in-Ok-Some-clause-run
returns-in-Ok-Some-clause-run c = λ first js r.
    let at = goal.at.returns-in-Ok-Some-clause-run c in
    let w = after_cut at.After-cut (popped at.In-Some) first js r in
    let l : 0 < c.next_task.new.left = (let z = c.if-tries-eq0.false in omega arith) in
    let k = kept at.In-Some in
    let q = rw c.in-Ok-Some.field-0-is at c.in-Ok-Some.ensures in
    let e = above_more c.args.base c.next_task.new.tasks.items c.turn.new.tasks.items q.0 k.reaches q.1 in
    running_ends (set_modes c.args.given.now.rules.now) (rules_of c.args.given.now.rules.now) c.args.given.now.pairs.now c.args.given.now.facts.now js first c.args.store.now c.args.tries.now (drop c.args.base c.args.tasks.now.items) r.facts c.cut.new.self c.next_task.new.left c.in-Some.task (drop c.args.base c.next_task.new.tasks.items) w l c.turn.new.store (drop c.args.base c.turn.new.tasks.items) c.in-Ok-Some.ending
    (turned_on (set_modes c.args.given.now.rules.now) (rules_of c.args.given.now.rules.now) c.args.given.now.pairs.now js (length c.args.given.now.facts.now + length (rules_of c.args.given.now.rules.now)) c.cut.new.self c.turn.new.store c.in-Some.task (drop c.args.base c.next_task.new.tasks.items) q.0 (drop c.args.base c.turn.new.tasks.items) (Some c.in-Ok-Some.ending) e (q.2 js (facts_cut at.After-cut first js r w) (drop c.args.base c.next_task.new.tasks.items) (rest_fit at.After-cut first js r w)))

pub returns-in-Ok-Some-clause-fewer : goal.returns-in-Ok-Some-clause-fewer
returns-in-Ok-Some-clause-fewer c =
    let x = c.in-Some.ensures.less in
    let y = c.loop-task.invariant.less in
    let z = c.if-tries-eq0.false in
    takes_try _ _ c.in-Ok-Some.ending (omega arith)

pub returns-in-Ok-Some-clause-below : goal.returns-in-Ok-Some-clause-below
returns-in-Ok-Some-clause-below c =
    let q = c.in-Ok-Some.ensures in
    kept_more _ _ _ _ q.0 (kept (goal.at.returns-in-Ok-Some-clause-below c).In-Some) q.1

pub returns-then-tries-eq0-clause-below : goal.returns-then-tries-eq0-clause-below
returns-then-tries-eq0-clause-below c = kept (goal.at.returns-then-tries-eq0-clause-below c).In-Some

pub returns-clause-below : goal.returns-clause-below
returns-clause-below c = kept_then _ _ _ _ c.loop-task.invariant.below c.in_default.ensures.below

pub returns-clause-run : goal.returns-clause-run
returns-clause-run c = λ first js r.
    let x = c.in_default.ensures.less in
    let e : c.loop-task.tries ≡ (c.loop-task.tries - c.next_task.new.left) + c.next_task.new.left = omega arith in
    let f = running_facts (set_modes c.args.given.now.rules.now) (rules_of c.args.given.now.rules.now) c.args.given.now.pairs.now c.args.given.now.facts.now js first c.args.store.now c.args.tries.now (drop c.args.base c.args.tasks.now.items) r.facts c.loop-task.store c.loop-task.tries (drop c.args.base c.loop-task.tasks.items) (c.loop-task.invariant.running first js r) in
    running_end (set_modes c.args.given.now.rules.now) (rules_of c.args.given.now.rules.now) c.args.given.now.pairs.now c.args.given.now.facts.now js first c.args.store.now c.args.tries.now (drop c.args.base c.args.tasks.now.items) r.facts c.loop-task.store c.loop-task.tries (drop c.args.base c.loop-task.tasks.items) (c.loop-task.invariant.running first js r) (c.loop-task.tries - c.next_task.new.left) c.next_task.new.left e (drop c.args.base c.next_task.new.tasks.items) (c.in_default.ensures.popped js f)
