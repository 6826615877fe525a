use Rattle.std.proofs.Common.{length, Ok, Err, sym, ap, arith, subst}
use Rattle.std.proofs.lemmas.List.{length-map}
use Rattle.sx_rules.specs.Views.{goal as goal_of, hypotheses}
use Rattle.sx_derive.specs.Candidates.{AreFacts}
use Rattle.sx_derive.specs.Store.{store_trees}
use Rattle.sx_derive.specs.Walked.{IsWalked}
use Rattle.sx_arena.specs.Views.{rules_of, set_modes, judgement_of}
use Rattle.sx_derive.proofs.Tasked.{facts_length}
use Rattle.sx_derive.proofs.Searching.{searched_ok, searched_err}
use Rattle.sx_derive.proofs.problem.search.Goals as goal

pub walk-requires-clause-few : goal.walk-requires-clause-few
walk-requires-clause-few g c =
    let p = c.in-Ok.problem in
    let h = c.in-Ok.ensures in
    let a = facts_length (set_modes c.args.rules.now) (store_trees p.store) (hypotheses c.args.given.now).judgements p.facts.items h.facts in
    let b = length-map c.args.given.now.holds.items judgement_of in
    let d = ap length c.deref.ensures.value in
    let f = c.requires.few in
    omega arith

pub returns-in-Ok-walk : goal.returns-in-Ok-walk
returns-in-Ok-walk g c =
    let m = set_modes c.args.rules.now in
    let rs = rules_of c.args.rules.now in
    let p = c.in-Ok.problem in
    let h = c.in-Ok.ensures in
    let js = (hypotheses c.args.given.now).judgements in
    searched_ok m rs (hypotheses c.args.given.now) c.args.goal.now.form (goal_of c.args.goal.now).terms _ p h c.walk.new.store c.args.budget c.args.steps.now c.walk.new.steps c.in-Ok-walk.field-0
    (subst (λ ps. IsWalked m rs ps js p.store c.walk.new.store p.wanted c.args.budget (record { form = c.args.goal.now.form; terms = p.terms; levels = 2999 }) c.args.steps.now c.walk.new.steps (Ok c.in-Ok-walk.field-0)) c.deref-2.ensures.value
    (c.in-Ok-walk.ensures js (subst (λ fs. AreFacts m (store_trees p.store) js fs) (sym c.deref.ensures.value) h.facts)))

pub returns-in-Err-walk : goal.returns-in-Err-walk
returns-in-Err-walk g c =
    let m = set_modes c.args.rules.now in
    let rs = rules_of c.args.rules.now in
    let p = c.in-Ok.problem in
    let h = c.in-Ok.ensures in
    let js = (hypotheses c.args.given.now).judgements in
    searched_err m rs (hypotheses c.args.given.now) c.args.goal.now.form (goal_of c.args.goal.now).terms _ p h c.walk.new.store c.args.budget c.args.steps.now c.walk.new.steps c.in-Err-walk.e
    (subst (λ ps. IsWalked m rs ps js p.store c.walk.new.store p.wanted c.args.budget (record { form = c.args.goal.now.form; terms = p.terms; levels = 2999 }) c.args.steps.now c.walk.new.steps (Err c.in-Err-walk.e)) c.deref-2.ensures.value
    (c.in-Err-walk.ensures js (subst (λ fs. AreFacts m (store_trees p.store) js fs) (sym c.deref.ensures.value) h.facts)))
