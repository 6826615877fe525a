use Rattle.std.proofs.Common.{◌≡◌, ◌+◌, ◌-◌, ◌≤◌, ◌++◌, ◌∷◌, [], List, drop, length, refl, ap, ◌∙◌, arith, subst}
use Rattle.sx_rules.specs.Rules.{Judgement}
use Rattle.sx_arena.specs.Views.{rules_of, set_modes}
use Rattle.sx_derive.specs.Givens.{HasFacts}
use Rattle.sx_derive.specs.Store.{store_trees}
use Rattle.sx_derive.specs.Tasks.{events_left, TasksFit, Piled}
use Rattle.sx_derive.specs.Walk.{tries_then}
use Rattle.sx_derive.specs.declared.store.Store.{Store}
use Rattle.sx_derive.specs.declared.tasks.Task.{Task}
use Rattle.sx_derive.proofs.Above.{kept_then}
use Rattle.sx_derive.proofs.Passed.{tries_both}
use Rattle.sx_derive.proofs.Tasked.{facts_length}
use Rattle.sx_derive.proofs.Turned.{events_pop, fits_pop, piled_pop, not_less, moved_fits, moved_piled, moved_events}
use Rattle.sx_derive.proofs.turns.next_task.Goals as goal
use Rattle.sx_derive.proofs.turns.next_task.Goals.{After-pass_over}

-- the tasks above the base that were left
abbrev above : After-pass_over → List Task
above c = drop c.args.base c.pop_above.new.tasks.items

-- the task that was popped, from the candidate on that was come to
abbrev moved : After-pass_over → Task
moved c = record { next = c.pass_over.result; form = c.in-Some.popped.form; terms = c.in-Some.popped.terms; levels = c.in-Some.popped.levels; frames = c.in-Some.popped.frames; mark = c.in-Some.popped.mark }

fit_before : (c : After-pass_over) → TasksFit (set_modes c.args.given.now.rules.now) (rules_of c.args.given.now.rules.now) c.args.store.now (length c.args.given.now.facts.now + length (rules_of c.args.given.now.rules.now)) (above c ++ c.in-Some.popped ∷ [])
fit_before c =
    subst (λ (xs : List Task). TasksFit (set_modes c.args.given.now.rules.now) (rules_of c.args.given.now.rules.now) c.args.store.now (length c.args.given.now.facts.now + length (rules_of c.args.given.now.rules.now)) xs) c.in-Some.ensures.popped c.loop-popped.invariant.fits

within : (c : After-pass_over) → c.pass_over.result ≤ length c.args.given.now.facts.now + length (rules_of c.args.given.now.rules.now)
within c = c.pass_over.ensures.within _ refl (fits_pop (set_modes c.args.given.now.rules.now) (rules_of c.args.given.now.rules.now) (length c.args.given.now.facts.now + length (rules_of c.args.given.now.rules.now)) c.args.store.now (above c) c.in-Some.popped (fit_before c)).1.next

fit_after : (c : After-pass_over) → TasksFit (set_modes c.args.given.now.rules.now) (rules_of c.args.given.now.rules.now) c.args.store.now (length c.args.given.now.facts.now + length (rules_of c.args.given.now.rules.now)) (above c ++ moved c ∷ [])
fit_after c =
    moved_fits (set_modes c.args.given.now.rules.now) (rules_of c.args.given.now.rules.now) (length c.args.given.now.facts.now + length (rules_of c.args.given.now.rules.now)) c.args.store.now (above c) c.in-Some.popped (moved c) c.pass_over.result refl (within c) (fit_before c)

piled_after : (c : After-pass_over) (first : Store) → Piled (set_modes c.args.given.now.rules.now) (rules_of c.args.given.now.rules.now) (length c.args.given.now.facts.now + length (rules_of c.args.given.now.rules.now)) first (drop c.args.base c.args.tasks.now.items) c.args.store.now →
    Piled (set_modes c.args.given.now.rules.now) (rules_of c.args.given.now.rules.now) (length c.args.given.now.facts.now + length (rules_of c.args.given.now.rules.now)) first (above c ++ moved c ∷ []) c.args.store.now
piled_after c first p =
    moved_piled (set_modes c.args.given.now.rules.now) (rules_of c.args.given.now.rules.now) (length c.args.given.now.facts.now + length (rules_of c.args.given.now.rules.now)) c.args.store.now (above c) c.in-Some.popped (moved c) c.pass_over.result refl (within c) first
    (subst (λ (xs : List Task). Piled (set_modes c.args.given.now.rules.now) (rules_of c.args.given.now.rules.now) (length c.args.given.now.facts.now + length (rules_of c.args.given.now.rules.now)) first xs c.args.store.now) c.in-Some.ensures.popped (c.loop-popped.invariant.piled first p))

same_after : (c : After-pass_over) (js : List Judgement) → HasFacts c.args.given.now c.args.store.now js →
    events_left (set_modes c.args.given.now.rules.now) (rules_of c.args.given.now.rules.now) c.args.given.now.pairs.now js c.args.store.now (drop c.args.base c.args.tasks.now.items) ≡ tries_then (c.args.left.now - c.pass_over.new.left) (events_left (set_modes c.args.given.now.rules.now) (rules_of c.args.given.now.rules.now) c.args.given.now.pairs.now js c.args.store.now (above c ++ moved c ∷ []))
same_after c js a =
    let m = set_modes c.args.given.now.rules.now in
    let rs = rules_of c.args.given.now.rules.now in
    let x = c.loop-popped.invariant.less in
    let y = c.pass_over.ensures.less in
    let n = c.loop-popped.left - c.pass_over.new.left in
    let z : c.args.left.now - c.pass_over.new.left ≡ (c.args.left.now - c.loop-popped.left) + n = omega arith in
    c.loop-popped.invariant.same js a
    ∙ ap (λ (xs : List Task). tries_then (c.args.left.now - c.loop-popped.left) (events_left m rs c.args.given.now.pairs.now js c.args.store.now xs)) c.in-Some.ensures.popped
    ∙ ap (tries_then (c.args.left.now - c.loop-popped.left))
    (moved_events m rs (length c.args.given.now.facts.now + length rs) c.args.store.now (above c) c.in-Some.popped (moved c) c.pass_over.result refl (within c) c.args.given.now.pairs.now js n c.pass_over.ensures.number (c.pass_over.ensures.nothing js a))
    ∙ tries_both (c.args.left.now - c.loop-popped.left) n (c.args.left.now - c.pass_over.new.left) (events_left m rs c.args.given.now.pairs.now js c.args.store.now (above c ++ moved c ∷ [])) z

pub pass_over-requires-clause-terms : goal.pass_over-requires-clause-terms
pass_over-requires-clause-terms c =
    (fits_pop (set_modes c.args.given.now.rules.now) (rules_of c.args.given.now.rules.now) (length c.args.given.now.facts.now + length (rules_of c.args.given.now.rules.now)) c.args.store.now (drop c.args.base c.pop_above.new.tasks.items) c.in-Some.popped
    (subst (λ (xs : List Task). TasksFit (set_modes c.args.given.now.rules.now) (rules_of c.args.given.now.rules.now) c.args.store.now (length c.args.given.now.facts.now + length (rules_of c.args.given.now.rules.now)) xs) c.in-Some.ensures.popped c.loop-popped.invariant.fits)).1.terms

pub returns-then-is_candidate-clause-popped : goal.returns-then-is_candidate-clause-popped
returns-then-is_candidate-clause-popped c = λ js a.
    let w = (goal.at.returns-then-is_candidate-clause-popped c).After-pass_over in
    (c.if-is_candidate.ensures.0 refl, same_after w js a, fit_after w, piled_after w)

pub returns-then-is_candidate-clause-below : goal.returns-then-is_candidate-clause-below
returns-then-is_candidate-clause-below c = kept_then _ _ _ _ c.loop-popped.invariant.below c.in-Some.ensures.below

pub loop-popped-preserved : goal.loop-popped-preserved
loop-popped-preserved c =
    let m = set_modes c.args.given.now.rules.now in
    let rs = rules_of c.args.given.now.rules.now in
    let n = length c.args.given.now.facts.now + length rs in
    let w = (goal.at.loop-popped-preserved c).After-pass_over in
    let x = c.loop-popped.invariant.less in
    let y = c.pass_over.ensures.less in
    record {
      less = (omega arith);
      below = kept_then _ _ _ _ c.loop-popped.invariant.below c.in-Some.ensures.below;
      same = λ js a.
          let k = not_less _ _ c.if-is_candidate.ensures.1 in
          let e = facts_length m (store_trees c.args.store.now) js c.args.given.now.facts.now a in
          let l : length js + length rs ≤ c.pass_over.result = omega arith in
          same_after w js a ∙ ap (tries_then (c.args.left.now - c.pass_over.new.left)) (events_pop m rs c.args.given.now.pairs.now js c.args.store.now (drop c.args.base c.pop_above.new.tasks.items) (moved w) l);
      fits = (fits_pop m rs n c.args.store.now (drop c.args.base c.pop_above.new.tasks.items) (moved w) (fit_after w)).0;
      piled = λ first p. piled_pop m rs n first c.args.store.now (drop c.args.base c.pop_above.new.tasks.items) (moved w) (piled_after w first p);
    }
