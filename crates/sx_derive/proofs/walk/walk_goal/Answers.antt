use Rattle.std.proofs.Common.{◌++◌, List, suc, reverse, ap, ◌∙◌}
use Rattle.sx_rules.specs.Rules.{Judgement}
use Rattle.sx_arena.specs.Views.{rules_of, set_modes}
use Rattle.sx_derive.specs.Candidates.{goal_in}
use Rattle.sx_derive.specs.Givens.{HasFacts}
use Rattle.sx_derive.specs.Handing.{hyps_in}
use Rattle.sx_derive.specs.Runs.{candidates_of}
use Rattle.sx_derive.specs.Walked.{events_in, HasComeTo}
use Rattle.sx_derive.specs.declared.tasks.Ending.TheVariants.{Found}
use Rattle.sx_derive.specs.declared.tasks.Task.{Task}
use Rattle.sx_derive.proofs.GoalTraces.{fails_none}
use Rattle.sx_derive.proofs.Walking.{come_by, exhausted_ends, halts_ends}
use Rattle.sx_derive.proofs.walk.walk_goal.Goals as goal
use Rattle.sx_derive.proofs.walk.walk_goal.Goals.{In-Answered}

-- the goal has come to its first answer
came : (c : In-Answered) (js : List Judgement) → HasFacts c.args.given.now c.args.store.now js → HasComeTo c.args.given.now c.args.store.now c.trace.new.store js c.args.tries.now c.trace.new.tries (events_in (set_modes c.args.given.now.rules.now) (rules_of c.args.given.now.rules.now) c.args.given.now.pairs.now js c.args.store.now c.args.goal.levels c.args.goal.form c.args.goal.terms.items) c.trace.new.tasks.items (Found c.in-Answered.head c.in-Answered.outputs)
came c js a =
    let x = rw c.in-Answered.is at c.in_ok-notes.ensures in
    come_by c.args.given.now c.args.store.now c.trace.new.store js c.args.tries.now c.trace.new.tries (events_in (set_modes c.args.given.now.rules.now) (rules_of c.args.given.now.rules.now) c.args.given.now.pairs.now js c.args.store.now c.args.goal.levels c.args.goal.form c.args.goal.terms.items) c.trace.new.tasks.items x.0 (Found c.in-Answered.head c.in-Answered.outputs) a c.requires.pairs (x.1 ∙ ap (λ (ts : List Task). ts ++ x.0) c.new-tasks.ensures.items) (x.2 js a)

pub returns-in-Failed : goal.returns-in-Failed
returns-in-Failed c = λ js a.
    let x = rw c.in-Failed.is at c.in_ok-notes.ensures in
    let y = x.2 js a in
    (exhausted_ends (set_modes c.args.given.now.rules.now) (rules_of c.args.given.now.rules.now) c.args.given.now.pairs.now js (candidates_of c.args.given.now) c.args.store.now c.trace.new.store c.args.wanted.now c.args.tries.now c.trace.new.tries (events_in (set_modes c.args.given.now.rules.now) (rules_of c.args.given.now.rules.now) c.args.given.now.pairs.now js c.args.store.now c.args.goal.levels c.args.goal.form c.args.goal.terms.items) x.0 y.0, y.1)

pub returns-in-Halted : goal.returns-in-Halted
returns-in-Halted c = λ js a.
    let x = rw c.in-Halted.is at c.in_ok-notes.ensures in
    let y = x.2 js a in (
      halts_ends (set_modes c.args.given.now.rules.now) (rules_of c.args.given.now.rules.now) c.args.store.now c.trace.new.store c.args.wanted.now c.args.tries.now c.trace.new.tries (events_in (set_modes c.args.given.now.rules.now) (rules_of c.args.given.now.rules.now) c.args.given.now.pairs.now js c.args.store.now c.args.goal.levels c.args.goal.form c.args.goal.terms.items) c.in-Halted.ending y.0 y.1,
      fails_none (set_modes c.args.given.now.rules.now) (rules_of c.args.given.now.rules.now) (hyps_in c.args.given.now.pairs.now c.args.store.now js) (suc c.args.goal.levels) (goal_in c.args.store.now c.args.goal.form c.args.goal.terms.items) (reverse c.new.result.items) (ap reverse c.new.ensures.items),
    )

pub go_on-requires-clause-came : goal.go_on-requires-clause-came
go_on-requires-clause-came c =
    let f = c.requires.facts in
    let js = f.0 in
    (c.args.store.now, js, c.args.tries.now, (events_in (set_modes c.args.given.now.rules.now) (rules_of c.args.given.now.rules.now) c.args.given.now.pairs.now js c.args.store.now c.args.goal.levels c.args.goal.form c.args.goal.terms.items), c.requires.wanted, came (goal.at.go_on-requires-clause-came c).In-Answered js f.1)

pub returns : goal.returns
returns c = λ js a. (
  c.in_ok-ending-in-Answered.ensures c.args.store.now js c.args.tries.now (events_in (set_modes c.args.given.now.rules.now) (rules_of c.args.given.now.rules.now) c.args.given.now.pairs.now js c.args.store.now c.args.goal.levels c.args.goal.form c.args.goal.terms.items) c.requires.wanted (came (goal.at.returns c).In-Answered js a),
  fails_none (set_modes c.args.given.now.rules.now) (rules_of c.args.given.now.rules.now) (hyps_in c.args.given.now.pairs.now c.args.store.now js) (suc c.args.goal.levels) (goal_in c.args.store.now c.args.goal.form c.args.goal.terms.items) (reverse c.new-in-Answered.result.items) (ap reverse c.new-in-Answered.ensures.items),
)
