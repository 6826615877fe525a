use Rattle.std.proofs.Common.{◌+◌, ◌<◌, ◌^◌, List, length, ap, sym, subst, ◌∙◌}
use Rattle.sx_rules.specs.Views.{hypotheses}
use Rattle.sx_arena.specs.Views.{rules_of, set_modes}
use Rattle.sx_arena.specs.Arena.{AreBelow}
use Rattle.sx_arena.specs.Pairs.{ArePairs}
use Rattle.sx_arena.specs.declared.fact.Fact.{Fact}
use Rattle.sx_derive.specs.Candidates.{AreFacts}
use Rattle.sx_derive.specs.Store.{store_trees}
use Rattle.sx_derive.specs.Tasks.{TasksFit}
use Rattle.sx_derive.specs.declared.search.Search.{Search}
use Rattle.sx_derive.specs.Handing.{answer_in}
use Rattle.sx_derive.proofs.Standing.{next_paused, next_ended, next_depth, next_passed, next_found, found_fits, next_failed, next_unexported}
use Rattle.sx_derive.proofs.search.Search.go_on.Goals as goal

pub returns-in-Spent : goal.returns-in-Spent
returns-in-Spent g c = λ es h. next_paused (set_modes c.args.rules.now) (rules_of c.args.rules.now) (hypotheses c.args.given.now) c.args.self.now es h c.requires.open c.deref.result.now c.deref-2.result.now c.deref.ensures.value c.deref-2.ensures.value c.reach-reached.new.store c.reach-reached.new.tasks c.args.budget c.args.steps.now c.reach-reached.new.steps c.in-Ok.reached c.in-Spent.is c.in-Ok.ensures

pub returns-in-Exhausted : goal.returns-in-Exhausted
returns-in-Exhausted g c = λ es h. next_ended (set_modes c.args.rules.now) (rules_of c.args.rules.now) (hypotheses c.args.given.now) c.args.self.now es h c.requires.open c.deref.result.now c.deref-2.result.now c.deref.ensures.value c.deref-2.ensures.value c.reach-reached.new.store c.reach-reached.new.tasks c.args.budget c.args.steps.now c.reach-reached.new.steps c.in-Ok.reached c.in-Exhausted.is c.in-Ok.ensures

pub returns-in-DepthSpent : goal.returns-in-DepthSpent
returns-in-DepthSpent g c = λ es h. next_depth (set_modes c.args.rules.now) (rules_of c.args.rules.now) (hypotheses c.args.given.now) c.args.self.now es h c.requires.open c.deref.result.now c.deref-2.result.now c.deref.ensures.value c.deref-2.ensures.value c.reach-reached.new.store c.reach-reached.new.tasks c.args.budget c.args.steps.now c.reach-reached.new.steps c.in-Ok.reached c.in-DepthSpent.is c.in-Ok.ensures

pub returns-in-Passed : goal.returns-in-Passed
returns-in-Passed g c = λ es h. next_passed (set_modes c.args.rules.now) (rules_of c.args.rules.now) (hypotheses c.args.given.now) c.args.self.now es h c.requires.open c.deref.result.now c.deref-2.result.now c.deref.ensures.value c.deref-2.ensures.value c.reach-reached.new.store c.reach-reached.new.tasks c.args.budget c.args.steps.now c.reach-reached.new.steps c.in-Ok.reached c.in-Passed.limit c.limit_error.result c.limit_error.ensures c.in-Passed.is c.in-Ok.ensures

pub returns-in-Ok-export_answer : goal.returns-in-Ok-export_answer
returns-in-Ok-export_answer g c = λ es h. next_found (set_modes c.args.rules.now) (rules_of c.args.rules.now) (hypotheses c.args.given.now) c.args.self.now es h c.requires.open c.deref.result.now c.deref-2.result.now c.deref.ensures.value c.deref-2.ensures.value c.reach-reached.new.store c.reach-reached.new.tasks c.args.budget c.args.steps.now c.reach-reached.new.steps c.in-Ok.reached c.in-Found.head c.in-Found.outputs c.in-Found.is c.in-Ok.ensures c.in-Ok-export_answer.derived (c.in-Ok-export_answer.ensures ∙ ap (answer_in c.reach-reached.new.store c.in-Found.head) c.deref-in-Found.ensures.value)

pub reach-reached-requires-clause-few : goal.reach-reached-requires-clause-few
reach-reached-requires-clause-few g c = subst (λ (fs : List Fact). length fs < 2 ^ 32) (sym c.deref.ensures.value) c.requires.stands.1.ready.few

pub reach-reached-requires-clause-facts : goal.reach-reached-requires-clause-facts
reach-reached-requires-clause-facts g c = (
  (hypotheses c.args.given.now).judgements,
  subst (AreFacts (set_modes c.args.rules.now) (store_trees c.args.self.now.store) (hypotheses c.args.given.now).judgements) (sym c.deref.ensures.value) c.requires.stands.1.ready.facts,
)

pub reach-reached-requires-clause-store : goal.reach-reached-requires-clause-store
reach-reached-requires-clause-store g c = c.requires.stands.1.ready.store

pub reach-reached-requires-clause-pairs : goal.reach-reached-requires-clause-pairs
reach-reached-requires-clause-pairs g c = subst (ArePairs (length (store_trees c.args.self.now.store))) (sym c.deref-2.ensures.value) c.requires.stands.1.ready.pairs

pub reach-reached-requires-clause-tasks : goal.reach-reached-requires-clause-tasks
reach-reached-requires-clause-tasks g c =
    let rs = rules_of c.args.rules.now in
    subst (λ (fs : List Fact). TasksFit (set_modes c.args.rules.now) rs c.args.self.now.store (length fs + length rs) c.args.self.now.tasks.items) (sym c.deref.ensures.value) c.requires.stands.1.ready.tasks

pub returns-in-Err : goal.returns-in-Err
returns-in-Err g c = λ es h. next_failed (set_modes c.args.rules.now) (rules_of c.args.rules.now) (hypotheses c.args.given.now) c.args.self.now es h c.requires.open c.deref.result.now c.deref-2.result.now c.deref.ensures.value c.deref-2.ensures.value c.reach-reached.new.store c.reach-reached.new.tasks c.args.budget c.args.steps.now c.reach-reached.new.steps c.in-Err.field-0 c.in-Err.ensures c.fail.new.self (ap (λ (s : Search). s.state) c.fail.ensures.failed) c.fail.result c.fail.ensures.error

pub export_answer-requires-clause-arena : goal.export_answer-requires-clause-arena
export_answer-requires-clause-arena g c = (found_fits (set_modes c.args.rules.now) (rules_of c.args.rules.now) (hypotheses c.args.given.now) c.args.self.now c.requires.stands.0 c.requires.stands.1 c.requires.open c.deref.result.now c.deref-2.result.now c.deref.ensures.value c.deref-2.ensures.value c.reach-reached.new.store c.reach-reached.new.tasks c.args.budget c.args.steps.now c.reach-reached.new.steps c.in-Ok.reached c.in-Found.head c.in-Found.outputs c.in-Found.is c.in-Ok.ensures).0.arena

pub export_answer-requires-clause-binds : goal.export_answer-requires-clause-binds
export_answer-requires-clause-binds g c = (found_fits (set_modes c.args.rules.now) (rules_of c.args.rules.now) (hypotheses c.args.given.now) c.args.self.now c.requires.stands.0 c.requires.stands.1 c.requires.open c.deref.result.now c.deref-2.result.now c.deref.ensures.value c.deref-2.ensures.value c.reach-reached.new.store c.reach-reached.new.tasks c.args.budget c.args.steps.now c.reach-reached.new.steps c.in-Ok.reached c.in-Found.head c.in-Found.outputs c.in-Found.is c.in-Ok.ensures).0.binds

pub export_answer-requires-clause-kids : goal.export_answer-requires-clause-kids
export_answer-requires-clause-kids g c = (found_fits (set_modes c.args.rules.now) (rules_of c.args.rules.now) (hypotheses c.args.given.now) c.args.self.now c.requires.stands.0 c.requires.stands.1 c.requires.open c.deref.result.now c.deref-2.result.now c.deref.ensures.value c.deref-2.ensures.value c.reach-reached.new.store c.reach-reached.new.tasks c.args.budget c.args.steps.now c.reach-reached.new.steps c.in-Ok.reached c.in-Found.head c.in-Found.outputs c.in-Found.is c.in-Ok.ensures).0.kids

pub export_answer-requires-clause-head : goal.export_answer-requires-clause-head
export_answer-requires-clause-head g c = (found_fits (set_modes c.args.rules.now) (rules_of c.args.rules.now) (hypotheses c.args.given.now) c.args.self.now c.requires.stands.0 c.requires.stands.1 c.requires.open c.deref.result.now c.deref-2.result.now c.deref.ensures.value c.deref-2.ensures.value c.reach-reached.new.store c.reach-reached.new.tasks c.args.budget c.args.steps.now c.reach-reached.new.steps c.in-Ok.reached c.in-Found.head c.in-Found.outputs c.in-Found.is c.in-Ok.ensures).1

pub export_answer-requires-clause-outputs : goal.export_answer-requires-clause-outputs
export_answer-requires-clause-outputs g c = subst (AreBelow (length (store_trees c.reach-reached.new.store))) (sym c.deref-in-Found.ensures.value) (found_fits (set_modes c.args.rules.now) (rules_of c.args.rules.now) (hypotheses c.args.given.now) c.args.self.now c.requires.stands.0 c.requires.stands.1 c.requires.open c.deref.result.now c.deref-2.result.now c.deref.ensures.value c.deref-2.ensures.value c.reach-reached.new.store c.reach-reached.new.tasks c.args.budget c.args.steps.now c.reach-reached.new.steps c.in-Ok.reached c.in-Found.head c.in-Found.outputs c.in-Found.is c.in-Ok.ensures).2

pub returns : goal.returns
returns g c = λ es h. next_unexported (set_modes c.args.rules.now) (rules_of c.args.rules.now) (hypotheses c.args.given.now) c.args.self.now es h c.requires.open c.deref.result.now c.deref-2.result.now c.deref.ensures.value c.deref-2.ensures.value c.reach-reached.new.store c.reach-reached.new.tasks c.args.budget c.args.steps.now c.reach-reached.new.steps c.in-Ok.reached c.in-Found.head c.in-Found.outputs c.in-Found.is c.in-Ok.ensures c.fail-in-Err-export_answer.new.self (ap (λ (s : Search). s.state) c.fail-in-Err-export_answer.ensures.failed) c.fail-in-Err-export_answer.result c.fail-in-Err-export_answer.ensures.error
