use Rattle.std.proofs.Common.{List, map, refl, sym, ◌∙◌, subst, arith}
use Rattle.sx_arena.specs.Places.{selected}
use Rattle.sx_arena.specs.declared.binds.Binds.{Binds}
use Rattle.sx_term.specs.Term.{tree}
use Rattle.sx_rules.specs.Rules.{Rule}
use Rattle.sx_rules.specs.Deep.{AreShallow}
use Rattle.sx_arena.specs.Matching.{match_all, nothing_bound}
use Rattle.sx_derive.specs.Machine.{rule_result}
use Rattle.sx_derive.specs.declared.store.Store.{Store}
use Rattle.sx_arena.specs.Arena.{tree_at}
use Rattle.sx_derive.specs.Candidates.{goal_in, IsCandidateTried}
use Rattle.sx_derive.specs.Handing.{frames_in}
use Rattle.sx_derive.specs.Store.{store_trees}
use Rattle.sx_arena.specs.Views.{rules_of, set_modes, rule_of}
use Rattle.sx_arena.proofs.Growing.{extends-length}
use Rattle.sx_arena.proofs.Patterns.{ok_weaker}
use Rattle.sx_arena.proofs.Parted.{pairs_more_terms}
use Rattle.sx_derive.proofs.Premised.{stays}
use Rattle.sx_derive.proofs.Resumed.{shallow_at}
use Rattle.sx_derive.proofs.Stored.{grows_binds, grows_then}
use Rattle.sx_derive.proofs.Tried.{rule_none, rule_stop, rule_done, rule_handed, one_rule}
use Rattle.sx_derive.proofs.candidates.try_rule.Goals as goal

-- the store with other bindings
abbrev with_binds : Store → Binds → Store
with_binds s binds = record { arena = s.arena; binds = binds; kids = s.kids; frames = s.frames; until = s.until }

pub fit_places-requires-clause-shallow : goal.fit_places-requires-clause-shallow
fit_places-requires-clause-shallow c =
    let r = shallow_at _ _ _ c.requires.shallow c.rule_at-rule.ensures in
    subst (λ (xs : List _). AreShallow (map tree xs)) (sym c.new-side.ensures.places) r.0

pub premises-requires-clause-shallow : goal.premises-requires-clause-shallow
premises-requires-clause-shallow c = shallow_at _ _ _ c.requires.shallow c.rule_at-rule.ensures

pub premises-requires-clause-store : goal.premises-requires-clause-store
premises-requires-clause-store c =
    let s = c.args.store.now in
    (grows_binds (set_modes c.args.given.now.rules.now) (rules_of c.args.given.now.rules.now) s (with_binds s c.fit_places.new.binds) c.requires.store c.in_ok-fit.ensures.grows refl refl refl refl).store

pub hand_on-requires-clause-pairs : goal.hand_on-requires-clause-pairs
hand_on-requires-clause-pairs c =
    let s = c.args.store.now in
    let g = grows_binds (set_modes c.args.given.now.rules.now) (rules_of c.args.given.now.rules.now) s (with_binds s c.fit_places.new.binds) c.requires.store c.in_ok-fit.ensures.grows refl refl refl refl in
    let k = grows_then _ _ s _ c.premises.new.store g c.in_ok-other-in-Some.ensures.grows in
    pairs_more_terms _ _ (extends-length _ _ k.trees) _ c.requires.pairs

pub hand_on-requires-clause-frames : goal.hand_on-requires-clause-frames
hand_on-requires-clause-frames c =
    let s = c.args.store.now in
    let g = grows_binds (set_modes c.args.given.now.rules.now) (rules_of c.args.given.now.rules.now) s (with_binds s c.fit_places.new.binds) c.requires.store c.in_ok-fit.ensures.grows refl refl refl refl in
    let k = grows_then _ _ s _ c.premises.new.store g c.in_ok-other-in-Some.ensures.grows in
    (stays _ _ s c.premises.new.store 0 0 c.args.task.now.frames k (omega arith) (omega arith) c.requires.frames).frames_within

pub hand_on-requires-clause-until : goal.hand_on-requires-clause-until
hand_on-requires-clause-until c =
    let u = c.in_ok-other-in-Some.ensures.grows.until in
    let o = c.requires.until in
    omega arith

pub hand_on-requires-clause-head : goal.hand_on-requires-clause-head
hand_on-requires-clause-head c =
    let s = c.args.store.now in
    let f = rw c.in-Some.is at c.in_ok-fit.ensures.fit in
    let d = rule_done (set_modes c.args.given.now.rules.now) (rules_of c.args.given.now.rules.now) c.args.given.now.pairs.now s (with_binds s c.fit_places.new.binds) c.args.number (rule_of c.rule_at-rule.result.now) c.args.task.now.form c.args.task.now.terms.items c.args.task.now.levels c.args.task.now.frames
    c.requires.store c.if-rule-task.false c.in_ok-fit.ensures.grows refl refl refl refl c.requires.pairs c.requires.frames c.premises.new.store c.in-Some.env
    ((λ i. match_all (selected (sym c.new-side.ensures.outputs i) (sym c.new-side.ensures.roles i) (map tree (sym c.new-side.ensures.places i))) (map (tree_at (store_trees s)) (sym c.deref.ensures.value i)) nothing_bound) ∙ f.1)
    c.in_ok-other-in-Some.other c.in_ok-other-in-Some.ensures c.in-Done.head c.in-Done.outputs c.in-Done.is in
    d.0.0

pub hand_on-requires-clause-outputs : goal.hand_on-requires-clause-outputs
hand_on-requires-clause-outputs c =
    let s = c.args.store.now in
    let f = rw c.in-Some.is at c.in_ok-fit.ensures.fit in
    let d = rule_done (set_modes c.args.given.now.rules.now) (rules_of c.args.given.now.rules.now) c.args.given.now.pairs.now s (with_binds s c.fit_places.new.binds) c.args.number (rule_of c.rule_at-rule.result.now) c.args.task.now.form c.args.task.now.terms.items c.args.task.now.levels c.args.task.now.frames
    c.requires.store c.if-rule-task.false c.in_ok-fit.ensures.grows refl refl refl refl c.requires.pairs c.requires.frames c.premises.new.store c.in-Some.env
    ((λ i. match_all (selected (sym c.new-side.ensures.outputs i) (sym c.new-side.ensures.roles i) (map tree (sym c.new-side.ensures.places i))) (map (tree_at (store_trees s)) (sym c.deref.ensures.value i)) nothing_bound) ∙ f.1)
    c.in_ok-other-in-Some.other c.in_ok-other-in-Some.ensures c.in-Done.head c.in-Done.outputs c.in-Done.is in
    d.0.1

pub returns-in-None : goal.returns-in-None
returns-in-None c =
    let s = c.args.store.now in
    let t = with_binds s c.fit_places.new.binds in
    one_rule (λ (rule : Rule). IsCandidateTried (set_modes c.args.given.now.rules.now) (rules_of c.args.given.now.rules.now) c.args.given.now.pairs.now s t
    (λ hyps. rule_result (set_modes c.args.given.now.rules.now) hyps c.args.number rule c.args.task.now.levels (goal_in s c.args.task.now.form c.args.task.now.terms.items) (frames_in (set_modes c.args.given.now.rules.now) (rules_of c.args.given.now.rules.now) s c.args.task.now.frames)) _)
    (rules_of c.args.given.now.rules.now) c.args.number (rule_of c.rule_at-rule.result.now) c.rule_at-rule.ensures
    (rule_none (set_modes c.args.given.now.rules.now) (rules_of c.args.given.now.rules.now) c.args.given.now.pairs.now s t c.args.number (rule_of c.rule_at-rule.result.now) c.args.task.now.form c.args.task.now.terms.items c.args.task.now.levels c.args.task.now.frames
    c.requires.store c.if-rule-task.false c.in_ok-fit.ensures.grows refl refl refl refl
    ((λ i. match_all (selected (sym c.new-side.ensures.outputs i) (sym c.new-side.ensures.roles i) (map tree (sym c.new-side.ensures.places i))) (map (tree_at (store_trees s)) (sym c.deref.ensures.value i)) nothing_bound) ∙ (rw c.in-None.is at c.in_ok-fit.ensures.fit)))

pub returns-in-Done : goal.returns-in-Done
returns-in-Done c =
    let s = c.args.store.now in
    let t = with_binds s c.fit_places.new.binds in
    let f = rw c.in-Some.is at c.in_ok-fit.ensures.fit in
    ok_weaker _ _ (λ step h. one_rule (λ (rule : Rule). IsCandidateTried (set_modes c.args.given.now.rules.now) (rules_of c.args.given.now.rules.now) c.args.given.now.pairs.now s c.hand_on.new.store
    (λ hyps. rule_result (set_modes c.args.given.now.rules.now) hyps c.args.number rule c.args.task.now.levels (goal_in s c.args.task.now.form c.args.task.now.terms.items) (frames_in (set_modes c.args.given.now.rules.now) (rules_of c.args.given.now.rules.now) s c.args.task.now.frames)) step)
    (rules_of c.args.given.now.rules.now) c.args.number (rule_of c.rule_at-rule.result.now) c.rule_at-rule.ensures
    (rule_handed (set_modes c.args.given.now.rules.now) (rules_of c.args.given.now.rules.now) c.args.given.now.pairs.now s t c.args.number (rule_of c.rule_at-rule.result.now) c.args.task.now.form c.args.task.now.terms.items c.args.task.now.levels c.args.task.now.frames
    c.requires.store c.if-rule-task.false c.in_ok-fit.ensures.grows refl refl refl refl c.requires.pairs c.requires.frames c.premises.new.store c.in-Some.env
    ((λ i. match_all (selected (sym c.new-side.ensures.outputs i) (sym c.new-side.ensures.roles i) (map tree (sym c.new-side.ensures.places i))) (map (tree_at (store_trees s)) (sym c.deref.ensures.value i)) nothing_bound) ∙ f.1)
    c.in_ok-other-in-Some.other c.in_ok-other-in-Some.ensures c.in-Done.head c.in-Done.outputs c.in-Done.is c.hand_on.new.store step h)) c.hand_on.result c.hand_on.ensures

pub returns-in_default : goal.returns-in_default
returns-in_default c =
    let s = c.args.store.now in
    let t = with_binds s c.fit_places.new.binds in
    let f = rw c.in-Some.is at c.in_ok-fit.ensures.fit in
    one_rule (λ (rule : Rule). IsCandidateTried (set_modes c.args.given.now.rules.now) (rules_of c.args.given.now.rules.now) c.args.given.now.pairs.now s c.premises.new.store
    (λ hyps. rule_result (set_modes c.args.given.now.rules.now) hyps c.args.number rule c.args.task.now.levels (goal_in s c.args.task.now.form c.args.task.now.terms.items) (frames_in (set_modes c.args.given.now.rules.now) (rules_of c.args.given.now.rules.now) s c.args.task.now.frames)) c.in_ok-other-in-Some.other)
    (rules_of c.args.given.now.rules.now) c.args.number (rule_of c.rule_at-rule.result.now) c.rule_at-rule.ensures
    (rule_stop (set_modes c.args.given.now.rules.now) (rules_of c.args.given.now.rules.now) c.args.given.now.pairs.now s t c.args.number (rule_of c.rule_at-rule.result.now) c.args.task.now.form c.args.task.now.terms.items c.args.task.now.levels c.args.task.now.frames
    c.requires.store c.if-rule-task.false c.in_ok-fit.ensures.grows refl refl refl refl c.requires.pairs c.requires.frames c.premises.new.store c.in-Some.env
    ((λ i. match_all (selected (sym c.new-side.ensures.outputs i) (sym c.new-side.ensures.roles i) (map tree (sym c.new-side.ensures.places i))) (map (tree_at (store_trees s)) (sym c.deref.ensures.value i)) nothing_bound) ∙ f.1)
    c.in_ok-other-in-Some.other c.in_ok-other-in-Some.ensures (λ h o e. c.in_default.not-Done h o e))
