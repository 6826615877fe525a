use Rattle.std.proofs.Common.{◌≡◌, ◌+◌, ◌-◌, ◌<◌, length, arith, subst}
use Rattle.std.specs.Prelude.{Ok, Some, None}
use Rattle.sx_arena.specs.Views.{rules_of, set_modes}
use Rattle.sx_arena.proofs.Growing.{extends-length}
use Rattle.sx_arena.proofs.Parted.{pairs_more_terms}
use Rattle.sx_derive.specs.Resumable.{IsReached}
use Rattle.sx_derive.specs.Tasks.{events_left}
use Rattle.sx_derive.specs.declared.tasks.Ending.TheVariants.{Spent}
use Rattle.sx_derive.proofs.Turned.{turned_on}
use Rattle.sx_derive.proofs.Resuming.{Reaching, reaching_first, last_less, facts_then, reaching_settled, reaching_end, reaching_spent, rest_fits, task_fits, reaching_failed, reaching_more, reaching_ends}
use Rattle.sx_derive.proofs.reach.reach.Goals as goal
use Rattle.sx_derive.proofs.reach.reach.Goals.{After-settle, In-Some, Else-left-eq0}

-- the search after the top was settled
settled : (g : _) (c : After-settle g) → Reaching (set_modes c.args.given.now.rules.now) (rules_of c.args.given.now.rules.now) c.args.given.now.pairs.now c.args.given.now.facts.now c.args.store.now c.args.budget c.args.tasks.now.items c.args.steps.now c.loop-budget.store (c.args.budget - c.settle.new.left) c.settle.new.steps c.settle.new.tasks.items
settled g c =
    let b = c.requires.facts in
    let x = c.loop-budget.invariant.less in
    let y = c.settle.ensures.less in
    reaching_settled (set_modes c.args.given.now.rules.now) (rules_of c.args.given.now.rules.now) c.args.given.now.pairs.now c.args.given.now.facts.now c.args.store.now c.args.budget c.args.tasks.now.items c.args.steps.now c.loop-budget.store (c.args.budget - c.loop-budget.left) c.loop-budget.steps c.loop-budget.tasks.items c.loop-budget.invariant.reaching b.0 b.1 c.settle.new.tasks.items (c.loop-budget.left - c.settle.new.left) (c.args.budget - c.settle.new.left) c.settle.new.steps (omega arith) (omega arith) c.settle.ensures.counted c.settle.ensures.settled

pub returns-then-left-eq0 : goal.returns-then-left-eq0
returns-then-left-eq0 g c = λ js a.
    let w = settled g (goal.at.returns-then-left-eq0 g c).After-settle in
    let k = c.loop-budget-test.ensures.last in
    let z : (c.args.budget - c.settle.new.left) ≡ c.args.budget = (let v = c.if-left-eq0.true in omega arith) in
    subst (λ (n : _). IsReached (set_modes c.args.given.now.rules.now) (rules_of c.args.given.now.rules.now) c.args.given.now.pairs.now js (length c.args.given.now.facts.now + length (rules_of c.args.given.now.rules.now)) c.args.store.now c.loop-budget.store c.settle.new.tasks.items c.args.budget c.args.steps.now c.settle.new.steps
    (events_left (set_modes c.args.given.now.rules.now) (rules_of c.args.given.now.rules.now) c.args.given.now.pairs.now js c.args.store.now c.args.tasks.now.items) (Ok (record { ending = Spent; tries = n }))) z
    (reaching_spent (set_modes c.args.given.now.rules.now) (rules_of c.args.given.now.rules.now) c.args.given.now.pairs.now c.args.given.now.facts.now c.args.store.now c.args.budget c.args.tasks.now.items c.args.steps.now c.loop-budget.store (c.args.budget - c.settle.new.left) c.settle.new.steps c.settle.new.tasks.items w k.0 k.1 k.2 k.3 z js a)

-- the task has a candidate
there : (g : _) (c : In-Some g) → c.in-Some.task.next < length c.args.given.now.facts.now + length (rules_of c.args.given.now.rules.now)
there g c = last_less c.settle.new.tasks.items c.pop.new.self.items c.in-Some.task _ c.in-Some.ensures.items c.loop-budget-test.ensures.last

-- a try is left
open_yet : (g : _) (c : Else-left-eq0 g) → (c.args.budget - c.settle.new.left) ≡ c.args.budget → ⊥
open_yet g c q =
    let i = c.loop-budget.invariant.less in
    let y = c.settle.ensures.less in
    let v = c.if-left-eq0.false in
    absurd (omega arith)

pub turn-requires-clause-facts : goal.turn-requires-clause-facts
turn-requires-clause-facts g c =
    let b = c.requires.facts in
    (b.0, facts_then (set_modes c.args.given.now.rules.now) (rules_of c.args.given.now.rules.now) c.args.given.now.pairs.now c.args.given.now.facts.now c.args.store.now c.args.budget c.args.tasks.now.items c.args.steps.now c.loop-budget.store (c.args.budget - c.loop-budget.left) c.loop-budget.steps c.loop-budget.tasks.items c.loop-budget.invariant.reaching b.0 b.1)

pub turn-requires-clause-pairs : goal.turn-requires-clause-pairs
turn-requires-clause-pairs g c = pairs_more_terms _ _ (extends-length _ _ c.loop-budget.invariant.reaching.grows.trees) _ c.requires.pairs

pub turn-requires-clause-task : goal.turn-requires-clause-task
turn-requires-clause-task g c =
    let w = settled g (goal.at.turn-requires-clause-task g c).After-settle in
    let e = c.in-Some.ensures.items in
    let l = there g (goal.at.turn-requires-clause-task g c).In-Some in
    task_fits (set_modes c.args.given.now.rules.now) (rules_of c.args.given.now.rules.now) c.args.given.now.pairs.now c.args.given.now.facts.now c.args.store.now c.args.budget c.args.tasks.now.items c.args.steps.now c.loop-budget.store (c.args.budget - c.settle.new.left) c.settle.new.steps c.settle.new.tasks.items w c.pop.new.self.items c.in-Some.task e l

pub returns-in-Err : goal.returns-in-Err
returns-in-Err g c = λ js a.
    let w = settled g (goal.at.returns-in-Err g c).After-settle in
    let e = c.in-Some.ensures.items in
    let l = there g (goal.at.returns-in-Err g c).In-Some in
    reaching_failed (set_modes c.args.given.now.rules.now) (rules_of c.args.given.now.rules.now) c.args.given.now.pairs.now c.args.given.now.facts.now c.args.store.now c.args.budget c.args.tasks.now.items c.args.steps.now c.loop-budget.store (c.args.budget - c.settle.new.left) c.settle.new.steps c.settle.new.tasks.items w c.pop.new.self.items c.in-Some.task e l (open_yet g (goal.at.returns-in-Err g c).Else-left-eq0) c.tick.new.self c.tick.ensures c.in-Err.e c.turn.new.store c.turn.new.tasks.items js a

pub loop-budget-preserved : goal.loop-budget-preserved
loop-budget-preserved g c =
    let b = c.requires.facts in
    let w = settled g (goal.at.loop-budget-preserved g c).After-settle in
    let e = c.in-Some.ensures.items in
    let l = there g (goal.at.loop-budget-preserved g c).In-Some in
    let f = (rest_fits (set_modes c.args.given.now.rules.now) (rules_of c.args.given.now.rules.now) c.args.given.now.pairs.now c.args.given.now.facts.now c.args.store.now c.args.budget c.args.tasks.now.items c.args.steps.now c.loop-budget.store (c.args.budget - c.settle.new.left) c.settle.new.steps c.settle.new.tasks.items w c.pop.new.self.items c.in-Some.task e l) in
    let q = rw c.in-Ok-None.field-0-is at c.in-Ok-None.ensures in
    let x = reaching_more (set_modes c.args.given.now.rules.now) (rules_of c.args.given.now.rules.now) c.args.given.now.pairs.now c.args.given.now.facts.now c.args.store.now c.args.budget c.args.tasks.now.items c.args.steps.now c.loop-budget.store (c.args.budget - c.settle.new.left) c.settle.new.steps c.settle.new.tasks.items w c.pop.new.self.items c.in-Some.task e l (open_yet g (goal.at.loop-budget-preserved g c).Else-left-eq0) c.tick.new.self c.tick.ensures c.turn.new.store c.turn.new.tasks.items b.0 b.1 (λ js a. turned_on (set_modes c.args.given.now.rules.now) (rules_of c.args.given.now.rules.now) c.args.given.now.pairs.now js (length c.args.given.now.facts.now + length (rules_of c.args.given.now.rules.now)) c.loop-budget.store c.turn.new.store c.in-Some.task c.pop.new.self.items q.0 c.turn.new.tasks.items None q.1 (q.2 js a c.pop.new.self.items f)) in
    let i = c.loop-budget.invariant.less in
    let y = c.settle.ensures.less in
    let v = c.if-left-eq0.false in
    let z : (c.args.budget - c.settle.new.left) + 1 ≡ c.args.budget - (c.settle.new.left - 1) = omega arith in
    record {
      less = (omega arith);
      reaching = subst (λ (n : _). Reaching (set_modes c.args.given.now.rules.now) (rules_of c.args.given.now.rules.now) c.args.given.now.pairs.now c.args.given.now.facts.now c.args.store.now c.args.budget c.args.tasks.now.items c.args.steps.now c.turn.new.store n c.tick.new.self c.turn.new.tasks.items) z x;
    }

pub returns-in-Ok-Some : goal.returns-in-Ok-Some
returns-in-Ok-Some g c = λ js a.
    let w = settled g (goal.at.returns-in-Ok-Some g c).After-settle in
    let e = c.in-Some.ensures.items in
    let l = there g (goal.at.returns-in-Ok-Some g c).In-Some in
    let f = (rest_fits (set_modes c.args.given.now.rules.now) (rules_of c.args.given.now.rules.now) c.args.given.now.pairs.now c.args.given.now.facts.now c.args.store.now c.args.budget c.args.tasks.now.items c.args.steps.now c.loop-budget.store (c.args.budget - c.settle.new.left) c.settle.new.steps c.settle.new.tasks.items w c.pop.new.self.items c.in-Some.task e l) in
    let q = rw c.in-Ok-Some.field-0-is at c.in-Ok-Some.ensures in
    let x = reaching_ends (set_modes c.args.given.now.rules.now) (rules_of c.args.given.now.rules.now) c.args.given.now.pairs.now c.args.given.now.facts.now c.args.store.now c.args.budget c.args.tasks.now.items c.args.steps.now c.loop-budget.store (c.args.budget - c.settle.new.left) c.settle.new.steps c.settle.new.tasks.items w c.pop.new.self.items c.in-Some.task e l (open_yet g (goal.at.returns-in-Ok-Some g c).Else-left-eq0) c.tick.new.self c.tick.ensures c.turn.new.store c.turn.new.tasks.items c.in-Ok-Some.ending (λ ks d. turned_on (set_modes c.args.given.now.rules.now) (rules_of c.args.given.now.rules.now) c.args.given.now.pairs.now ks (length c.args.given.now.facts.now + length (rules_of c.args.given.now.rules.now)) c.loop-budget.store c.turn.new.store c.in-Some.task c.pop.new.self.items q.0 c.turn.new.tasks.items (Some c.in-Ok-Some.ending) q.1 (q.2 ks d c.pop.new.self.items f)) js a in
    let i = c.loop-budget.invariant.less in
    let y = c.settle.ensures.less in
    let v = c.if-left-eq0.false in
    let z : (c.args.budget - c.settle.new.left) + 1 ≡ c.args.budget - (c.settle.new.left - 1) = omega arith in
    subst (λ (n : _). IsReached (set_modes c.args.given.now.rules.now) (rules_of c.args.given.now.rules.now) c.args.given.now.pairs.now js (length c.args.given.now.facts.now + length (rules_of c.args.given.now.rules.now)) c.args.store.now c.turn.new.store c.turn.new.tasks.items c.args.budget c.args.steps.now c.tick.new.self
    (events_left (set_modes c.args.given.now.rules.now) (rules_of c.args.given.now.rules.now) c.args.given.now.pairs.now js c.args.store.now c.args.tasks.now.items) (Ok (record { ending = c.in-Ok-Some.ending; tries = n }))) z x

pub returns : goal.returns
returns g c = λ js a.
    let w = settled g (goal.at.returns g c).After-settle in
    reaching_end (set_modes c.args.given.now.rules.now) (rules_of c.args.given.now.rules.now) c.args.given.now.pairs.now c.args.given.now.facts.now c.args.store.now c.args.budget c.args.tasks.now.items c.args.steps.now c.loop-budget.store (c.args.budget - c.settle.new.left) c.settle.new.steps c.settle.new.tasks.items w c.loop-budget-test.ensures.last js a

pub loop-budget-init : goal.loop-budget-init
loop-budget-init g c =
    let z : 0 ≡ c.args.budget - c.args.budget = omega arith in
    record {
      less = (omega arith);
      reaching = subst (λ (n : _). Reaching (set_modes c.args.given.now.rules.now) (rules_of c.args.given.now.rules.now) c.args.given.now.pairs.now c.args.given.now.facts.now c.args.store.now c.args.budget c.args.tasks.now.items c.args.steps.now c.args.store.now n c.args.steps.now c.args.tasks.now.items) z (reaching_first (set_modes c.args.given.now.rules.now) (rules_of c.args.given.now.rules.now) c.args.given.now.pairs.now c.args.given.now.facts.now c.args.store.now c.args.budget c.args.tasks.now.items c.args.steps.now c.requires.store c.requires.tasks);
    }

pub turn-requires-clause-store : goal.turn-requires-clause-store
turn-requires-clause-store g c = c.loop-budget.invariant.reaching.grows.store

pub turn-requires-clause-next : goal.turn-requires-clause-next
turn-requires-clause-next g c = there g (goal.at.turn-requires-clause-next g c).In-Some

pub settle-requires-clause-store : goal.settle-requires-clause-store
settle-requires-clause-store g c = c.loop-budget.invariant.reaching.grows.store

pub settle-requires-clause-tasks : goal.settle-requires-clause-tasks
settle-requires-clause-tasks g c = c.loop-budget.invariant.reaching.fits
