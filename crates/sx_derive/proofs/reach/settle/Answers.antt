use Rattle.std.proofs.Common.{◌≡◌, ℕ, List, suc, ◌+◌, ◌-◌, ◌<◌, ◌≤◌, take, slice_set, length, refl, sym, ap, ◌∙◌, arith}
use Rattle.std.specs.Vec.{vec_len}
use Rattle.std.proofs.lemmas.List.{get_or_default}
use Rattle.sx_rules.specs.Rules.{Judgement}
use Rattle.sx_arena.specs.Views.{rules_of, set_modes}
use Rattle.sx_derive.specs.Givens.{HasFacts}
use Rattle.sx_derive.specs.Store.{store_trees}
use Rattle.sx_derive.specs.Tasks.{events_left, TasksFit}
use Rattle.sx_derive.specs.Walk.{tries_then}
use Rattle.sx_derive.specs.declared.tasks.Task.{Task}
use Rattle.sx_derive.proofs.Passed.{tries_both}
use Rattle.sx_derive.proofs.Tasked.{facts_length}
use Rattle.sx_derive.proofs.Turned.{not_less}
use Rattle.sx_derive.proofs.Resuming.{last_changed, last_fits, changed_fits, changed_events, rest_fit, rest_events}
use Rattle.sx_derive.proofs.reach.settle.Goals as goal
use Rattle.sx_derive.proofs.reach.settle.Goals.{After-index_mut}

-- the last task, from the candidate on that was come to
abbrev moved : (g : _) → After-index_mut g → Task
moved g c = record { next = c.pass_over-next.result; form = c.index_mut.result.now.form; terms = c.index_mut.result.now.terms; levels = c.index_mut.result.now.levels; frames = c.index_mut.result.now.frames; mark = c.index_mut.result.now.mark }

long : (g : _) (c : After-index_mut g) → length c.loop-tasks.tasks.items ≡ suc (c.len-last.result - 1)
long g c = let a = c.loop-tasks-test.true in let b = c.len-last.ensures in let d = c.len.ensures in omega arith

moved_is : (g : _) (c : After-index_mut g) → moved g c ≡ record { next = c.pass_over-next.result; form = c.index.result.now.form; terms = c.index.result.now.terms; levels = c.index.result.now.levels; frames = c.index.result.now.frames; mark = c.index.result.now.mark }
moved_is g c =
    let x = long g c in
    let l : (c.len-last.result - 1) < length c.loop-tasks.tasks.items = omega arith in
    ap (λ (k : Task). record { next = c.pass_over-next.result; form = k.form; terms = k.terms; levels = k.levels; frames = k.frames; mark = k.mark })
    (c.index_mut.ensures.value ∙ get_or_default c.loop-tasks.tasks.items (c.len-last.result - 1) c.index_mut.result.now c.index.result.now l ∙ sym c.index.ensures)

within : (g : _) (c : After-index_mut g) → c.pass_over-next.result ≤ (length c.args.given.now.facts.now + length (rules_of c.args.given.now.rules.now))
within g c = c.pass_over-next.ensures.within _ refl (last_fits (set_modes c.args.given.now.rules.now) (rules_of c.args.given.now.rules.now) c.args.given.now.pairs.now (length c.args.given.now.facts.now + length (rules_of c.args.given.now.rules.now)) c.args.store.now c.loop-tasks.tasks.items (slice_set c.loop-tasks.tasks.items (c.len-last.result - 1) (moved g c)) (c.len-last.result - 1) c.index.result.now (moved g c) c.pass_over-next.result (long g c) c.index.ensures (moved_is g c) refl c.loop-tasks.invariant.fits).next

fit_after : (g : _) (c : After-index_mut g) → TasksFit (set_modes c.args.given.now.rules.now) (rules_of c.args.given.now.rules.now) c.args.store.now (length c.args.given.now.facts.now + length (rules_of c.args.given.now.rules.now)) (slice_set c.loop-tasks.tasks.items (c.len-last.result - 1) (moved g c))
fit_after g c = changed_fits (set_modes c.args.given.now.rules.now) (rules_of c.args.given.now.rules.now) c.args.given.now.pairs.now (length c.args.given.now.facts.now + length (rules_of c.args.given.now.rules.now)) c.args.store.now c.loop-tasks.tasks.items (slice_set c.loop-tasks.tasks.items (c.len-last.result - 1) (moved g c)) (c.len-last.result - 1) c.index.result.now (moved g c) c.pass_over-next.result (long g c) c.index.ensures (moved_is g c) refl (within g c) c.loop-tasks.invariant.fits

same_after : (g : _) (c : After-index_mut g) (js : List Judgement) → HasFacts c.args.given.now c.args.store.now js →
    events_left (set_modes c.args.given.now.rules.now) (rules_of c.args.given.now.rules.now) c.args.given.now.pairs.now js c.args.store.now c.args.tasks.now.items ≡ tries_then (c.args.left.now - c.pass_over-next.new.left) (events_left (set_modes c.args.given.now.rules.now) (rules_of c.args.given.now.rules.now) c.args.given.now.pairs.now js c.args.store.now (slice_set c.loop-tasks.tasks.items (c.len-last.result - 1) (moved g c)))
same_after g c js a =
    let x = c.loop-tasks.invariant.less in
    let y = c.pass_over-next.ensures.less in
    let n = c.loop-tasks.left - c.pass_over-next.new.left in
    let z : c.args.left.now - c.pass_over-next.new.left ≡ (c.args.left.now - c.loop-tasks.left) + n = omega arith in
    c.loop-tasks.invariant.same js a
    ∙ ap (tries_then (c.args.left.now - c.loop-tasks.left)) (changed_events (set_modes c.args.given.now.rules.now) (rules_of c.args.given.now.rules.now) c.args.given.now.pairs.now (length c.args.given.now.facts.now + length (rules_of c.args.given.now.rules.now)) c.args.store.now c.loop-tasks.tasks.items (slice_set c.loop-tasks.tasks.items (c.len-last.result - 1) (moved g c)) (c.len-last.result - 1) c.index.result.now (moved g c) c.pass_over-next.result (long g c) c.index.ensures (moved_is g c) refl (within g c) js n c.pass_over-next.ensures.number (c.pass_over-next.ensures.nothing js a))
    ∙ tries_both (c.args.left.now - c.loop-tasks.left) n (c.args.left.now - c.pass_over-next.new.left) (events_left (set_modes c.args.given.now.rules.now) (rules_of c.args.given.now.rules.now) c.args.given.now.pairs.now js c.args.store.now (slice_set c.loop-tasks.tasks.items (c.len-last.result - 1) (moved g c))) z

pub pass_over-next-requires-clause-terms : goal.pass_over-next-requires-clause-terms
pass_over-next-requires-clause-terms g c =
    let a = c.loop-tasks-test.true in
    let b = c.len-last.ensures in
    let d = c.len.ensures in
    let l : length c.loop-tasks.tasks.items ≡ suc (c.len-last.result - 1) = omega arith in
    (last_fits (set_modes c.args.given.now.rules.now) (rules_of c.args.given.now.rules.now) c.args.given.now.pairs.now (length c.args.given.now.facts.now + length (rules_of c.args.given.now.rules.now)) c.args.store.now c.loop-tasks.tasks.items (slice_set c.loop-tasks.tasks.items (c.len-last.result - 1) c.index.result.now) (c.len-last.result - 1) c.index.result.now c.index.result.now c.index.result.now.next l c.index.ensures refl refl c.loop-tasks.invariant.fits).terms

pub returns-then-is_candidate-clause-settled : goal.returns-then-is_candidate-clause-settled
returns-then-is_candidate-clause-settled g c = λ js a.
    let w = (goal.at.returns-then-is_candidate-clause-settled g c).After-index_mut in
    record { same = same_after g w js a; fits = fit_after g w }

pub returns-then-is_candidate-clause-last : goal.returns-then-is_candidate-clause-last
returns-then-is_candidate-clause-last g c =
    let w = (goal.at.returns-then-is_candidate-clause-last g c).After-index_mut in
    (take (c.len-last.result - 1) c.loop-tasks.tasks.items, moved g w, last_changed (set_modes c.args.given.now.rules.now) (rules_of c.args.given.now.rules.now) c.args.given.now.pairs.now (length c.args.given.now.facts.now + length (rules_of c.args.given.now.rules.now)) c.args.store.now c.loop-tasks.tasks.items (slice_set c.loop-tasks.tasks.items (c.len-last.result - 1) (moved g w)) (c.len-last.result - 1) c.index.result.now (moved g w) c.pass_over-next.result (long g w) c.index.ensures (moved_is g w) refl, c.if-is_candidate.ensures.0 refl)

pub loop-tasks-preserved-else-is_candidate : goal.loop-tasks-preserved-else-is_candidate
loop-tasks-preserved-else-is_candidate g c =
    let w = (goal.at.loop-tasks-preserved-else-is_candidate g c).After-index_mut in
    let x = c.loop-tasks.invariant.less in
    let y = c.pass_over-next.ensures.less in
    let v = c.loop-tasks.invariant.counted in
    let u = c.count.ensures in
    let b = c.len-last.ensures in
    let z : vec_len c.loop-tasks.tasks - 1 ≡ (c.len-last.result - 1) = omega arith in
    let r : c.pop.new.self.items ≡ take (c.len-last.result - 1) (slice_set c.loop-tasks.tasks.items (c.len-last.result - 1) (moved g w)) = c.pop.ensures.rest ∙ ap (λ (q : ℕ). take q (slice_set c.loop-tasks.tasks.items (c.len-last.result - 1) (moved g w))) z in
    record {
      less = (omega arith);
      counted = (omega arith);
      fits = rest_fit (set_modes c.args.given.now.rules.now) (rules_of c.args.given.now.rules.now) c.args.given.now.pairs.now (length c.args.given.now.facts.now + length (rules_of c.args.given.now.rules.now)) c.args.store.now c.loop-tasks.tasks.items (slice_set c.loop-tasks.tasks.items (c.len-last.result - 1) (moved g w)) (c.len-last.result - 1) c.index.result.now (moved g w) c.pass_over-next.result (long g w) c.index.ensures (moved_is g w) refl c.pop.new.self.items r c.loop-tasks.invariant.fits;
      same = λ js a.
          let k = not_less _ _ c.if-is_candidate.ensures.1 in
          let e = facts_length (set_modes c.args.given.now.rules.now) (store_trees c.args.store.now) js c.args.given.now.facts.now a in
          let l : length js + length (rules_of c.args.given.now.rules.now) ≤ c.pass_over-next.result = omega arith in
          same_after g w js a ∙ ap (tries_then (c.args.left.now - c.pass_over-next.new.left)) (rest_events (set_modes c.args.given.now.rules.now) (rules_of c.args.given.now.rules.now) c.args.given.now.pairs.now (length c.args.given.now.facts.now + length (rules_of c.args.given.now.rules.now)) c.args.store.now c.loop-tasks.tasks.items (slice_set c.loop-tasks.tasks.items (c.len-last.result - 1) (moved g w)) (c.len-last.result - 1) c.index.result.now (moved g w) c.pass_over-next.result (long g w) c.index.ensures (moved_is g w) refl c.pop.new.self.items r js l);
    }
