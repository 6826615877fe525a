use Rattle.std.proofs.Common.{◌≡◌, [], ◌∷◌, map, drop, refl, sym, subst, length, ◌+◌, ◌<◌, arith}
use Rattle.sx_rules.specs.declared.rule.Premise.{Premise as PremiseOf}
use Rattle.sx_arena.specs.Binds.{env_at}
use Rattle.sx_arena.specs.Views.{rule_of, premise_of, rules_of, set_modes, judgement_of}
use Rattle.sx_derive.specs.Asking.{asked_events, AskedFails, IsAnswered}
use Rattle.sx_derive.specs.Descents.{spot_goal, PremisesLead, IsDescent}
use Rattle.sx_derive.specs.Quiet.{first_given}
use Rattle.sx_derive.specs.Store.{store_envs}
use Rattle.sx_derive.specs.declared.descent.Descent.{Descent}
use Rattle.sx_derive.specs.declared.descent.Descent.TheVariants.{Below}
use Rattle.sx_derive.specs.Ways.{subject_modes}
use Rattle.sx_derive.proofs.Stored.{grows_then}
use Rattle.sx_derive.proofs.Premised.{IsShallowPremise, shallow_premise_at, drop_premise, drop_premises_end}
use Rattle.sx_derive.proofs.Descended.{Descending, hyps_stay, for_hyps, descending_first, descending_as, descending_at, apart_grown, apart_fails, apart_holds, ask_facts, ask_quiet, answered_below, answered_differs, answered_matched, noted_grown, noted_below, end_grown, end_stuck}
use Rattle.sx_derive.proofs.premise_descent.descend_in_order.Goals as goal
use Rattle.sx_derive.proofs.premise_descent.descend_in_order.Goals.{After-index, in-Apart+in_ok-instances_apart-in-Apart+else-not-branch, in-Holds+else-is_noted+in_ok-next-in-Holds+in-Matched}

-- the premise is there
there : (c : After-index) → c.loop-k.k < length c.args.from.candidate.rule.now.premises.items
there c = let a = c.loop-k-test.true in let b = c.len-k-end.ensures in let e = c.args.from.candidate.rule.now.premises.ok in omega arith

-- what holds before it, where it is known
before : (c : After-index) (p : PremiseOf) → c.index.result.now ≡ p → Descending (set_modes c.args.given.now.rules.now) (subject_modes c.args.given.now.rules.now) (rules_of c.args.given.now.rules.now) c.loop-k.invariant.0 c.args.from.noted c.loop-k.notes.items c.args.bounds.budget c.args.bounds.levels c.args.from.candidate.number (rule_of c.args.from.candidate.rule.now) c.args.store.now c.args.given.now.facts.now c.args.given.now.pairs.now c.args.from.candidate.env c.args.spot c.loop-k.store c.loop-k.k (premise_of p ∷ drop (c.loop-k.k + 1) (map premise_of c.args.from.candidate.rule.now.premises.items)) c.loop-k.env
before c p e = descending_as (set_modes c.args.given.now.rules.now) (subject_modes c.args.given.now.rules.now) (rules_of c.args.given.now.rules.now) c.loop-k.invariant.0 c.facts.ensures.moded c.args.from.noted c.loop-k.notes.items c.args.bounds.budget c.args.bounds.levels c.args.from.candidate.number (rule_of c.args.from.candidate.rule.now) c.args.store.now c.args.given.now.facts.now c.args.given.now.pairs.now c.args.from.candidate.env c.args.spot c.requires.terms c.loop-k.store c.loop-k.k c.loop-k.env _ _ (drop_premise c.args.from.candidate.rule.now.premises.items c.loop-k.k _ p (there c) c.index.ensures e) c.loop-k.invariant.1

pub instances_apart-requires-clause-first : goal.instances_apart-requires-clause-first
instances_apart-requires-clause-first c =
    let h = subst IsShallowPremise c.in-Apart.is (shallow_premise_at _ c.requires.shallow.1 c.loop-k.k _ (there (goal.at.instances_apart-requires-clause-first c).After-index) c.index.ensures) in
    h.0

pub instances_apart-requires-clause-second : goal.instances_apart-requires-clause-second
instances_apart-requires-clause-second c =
    let h = subst IsShallowPremise c.in-Apart.is (shallow_premise_at _ c.requires.shallow.1 c.loop-k.k _ (there (goal.at.instances_apart-requires-clause-second c).After-index) c.index.ensures) in
    h.1

pub instances_apart-requires-clause-pairs : goal.instances_apart-requires-clause-pairs
instances_apart-requires-clause-pairs c =
    let m = set_modes c.args.given.now.rules.now in
    let rs = rules_of c.args.given.now.rules.now in
    let s = c.args.store.now in
    let x = c.loop-k.invariant.0 in
    let d = c.loop-k.invariant.1 in
    (hyps_stay m rs s c.loop-k.store c.args.given.now.facts.now c.args.given.now.pairs.now x d.grows d.are).pairs_below

pub returns-then-not-branch-clause-grows : goal.returns-then-not-branch-clause-grows
returns-then-not-branch-clause-grows c =
    let m = set_modes c.args.given.now.rules.now in
    let su = subject_modes c.args.given.now.rules.now in
    let rs = rules_of c.args.given.now.rules.now in
    let r = rule_of c.args.from.candidate.rule.now in
    let s = c.args.store.now in
    let x = c.loop-k.invariant.0 in
    apart_grown m su rs x c.facts.ensures.moded c.args.from.noted c.loop-k.notes.items c.args.bounds.budget c.args.bounds.levels c.args.from.candidate.number r s c.args.given.now.facts.now c.args.given.now.pairs.now c.args.from.candidate.env c.args.spot c.requires.terms c.loop-k.store (record { arena = c.instances_apart.new.arena; binds = c.loop-k.store.binds; kids = c.loop-k.store.kids; frames = c.loop-k.store.frames; until = c.loop-k.store.until }) c.loop-k.k c.loop-k.env _ _ _ (before (goal.at.returns-then-not-branch-clause-grows c).After-index _ c.in-Apart.is) _ c.in_ok-instances_apart-in-Apart.ensures refl refl refl refl

pub returns-then-not-branch-clause-descent : goal.returns-then-not-branch-clause-descent
returns-then-not-branch-clause-descent c =
    let m = set_modes c.args.given.now.rules.now in
    let su = subject_modes c.args.given.now.rules.now in
    let rs = rules_of c.args.given.now.rules.now in
    let r = rule_of c.args.from.candidate.rule.now in
    let s = c.args.store.now in
    let x = c.loop-k.invariant.0 in
    let d = c.loop-k.invariant.1 in
    λ hyps are. for_hyps m s c.args.given.now.facts.now c.args.given.now.pairs.now x hyps d.are are
    (λ hs. IsDescent m su rs hs c.args.bounds.budget c.args.bounds.levels (record { arena = c.instances_apart.new.arena; binds = c.loop-k.store.binds; kids = c.loop-k.store.kids; frames = c.loop-k.store.frames; until = c.loop-k.store.until }) c.loop-k.notes.items (PremisesLead m su rs hs c.args.bounds.budget c.args.bounds.levels c.args.from.candidate.number r (spot_goal s c.args.spot) c.args.spot.path.items 0 r.premises (env_at (store_envs s) c.args.from.candidate.env)) c.equal.result)
    (subst (λ (q : Descent). IsDescent m su rs x c.args.bounds.budget c.args.bounds.levels (record { arena = c.instances_apart.new.arena; binds = c.loop-k.store.binds; kids = c.loop-k.store.kids; frames = c.loop-k.store.frames; until = c.loop-k.store.until }) c.loop-k.notes.items (PremisesLead m su rs x c.args.bounds.budget c.args.bounds.levels c.args.from.candidate.number r (spot_goal s c.args.spot) c.args.spot.path.items 0 r.premises (env_at (store_envs s) c.args.from.candidate.env)) q) (sym c.equal.ensures)
    (apart_fails m su rs x c.facts.ensures.moded c.args.from.noted c.loop-k.notes.items c.args.bounds.budget c.args.bounds.levels c.args.from.candidate.number r s c.args.given.now.facts.now c.args.given.now.pairs.now c.args.from.candidate.env c.args.spot c.requires.terms c.loop-k.store (record { arena = c.instances_apart.new.arena; binds = c.loop-k.store.binds; kids = c.loop-k.store.kids; frames = c.loop-k.store.frames; until = c.loop-k.store.until }) c.loop-k.k c.loop-k.env _ _ _ (before (goal.at.returns-then-not-branch-clause-descent c).After-index _ c.in-Apart.is) _ c.in_ok-instances_apart-in-Apart.ensures refl refl refl refl c.if-not-branch.true))

pub ask-requires-clause-facts : goal.ask-requires-clause-facts
ask-requires-clause-facts c =
    let m = set_modes c.args.given.now.rules.now in
    let su = subject_modes c.args.given.now.rules.now in
    let rs = rules_of c.args.given.now.rules.now in
    let r = rule_of c.args.from.candidate.rule.now in
    let s = c.args.store.now in
    let x = c.loop-k.invariant.0 in
    ask_facts m su rs x c.facts.ensures.moded c.args.from.noted c.loop-k.notes.items c.args.bounds.budget c.args.bounds.levels c.args.from.candidate.number r s c.args.given.now.facts.now c.args.given.now.pairs.now c.args.from.candidate.env c.args.spot c.requires.terms c.loop-k.store s c.loop-k.k c.loop-k.env _ _ (before (goal.at.ask-requires-clause-facts c).After-index _ c.in-Holds.is)

pub ask-requires-clause-pairs : goal.ask-requires-clause-pairs
ask-requires-clause-pairs c =
    let m = set_modes c.args.given.now.rules.now in
    let rs = rules_of c.args.given.now.rules.now in
    let s = c.args.store.now in
    let x = c.loop-k.invariant.0 in
    let d = c.loop-k.invariant.1 in
    (hyps_stay m rs s c.loop-k.store c.args.given.now.facts.now c.args.given.now.pairs.now x d.grows d.are).pairs_below

pub ask-requires-clause-shallow : goal.ask-requires-clause-shallow
ask-requires-clause-shallow c =
    let h = subst IsShallowPremise c.in-Holds.is (shallow_premise_at _ c.requires.shallow.1 c.loop-k.k _ (there (goal.at.ask-requires-clause-shallow c).After-index) c.index.ensures) in
    h

pub ask-requires-clause-quiet : goal.ask-requires-clause-quiet
ask-requires-clause-quiet c =
    let m = set_modes c.args.given.now.rules.now in
    let su = subject_modes c.args.given.now.rules.now in
    let rs = rules_of c.args.given.now.rules.now in
    let r = rule_of c.args.from.candidate.rule.now in
    let s = c.args.store.now in
    let x = c.loop-k.invariant.0 in
    ask_quiet m su rs x c.facts.ensures.moded c.args.from.noted c.loop-k.notes.items c.args.bounds.budget c.args.bounds.levels c.args.from.candidate.number r s c.args.given.now.facts.now c.args.given.now.pairs.now c.args.from.candidate.env c.args.spot c.requires.terms c.loop-k.store s c.loop-k.k c.loop-k.env _ _ (before (goal.at.ask-requires-clause-quiet c).After-index _ c.in-Holds.is)

pub returns-in-Unanswered-clause-descent : goal.returns-in-Unanswered-clause-descent
returns-in-Unanswered-clause-descent c =
    let m = set_modes c.args.given.now.rules.now in
    let su = subject_modes c.args.given.now.rules.now in
    let rs = rules_of c.args.given.now.rules.now in
    let r = rule_of c.args.from.candidate.rule.now in
    let s = c.args.store.now in
    let x = c.loop-k.invariant.0 in
    let d = c.loop-k.invariant.1 in
    λ hyps are. for_hyps m s c.args.given.now.facts.now c.args.given.now.pairs.now x hyps d.are are
    (λ hs. IsDescent m su rs hs c.args.bounds.budget c.args.bounds.levels c.ask.new.store c.in-Unanswered.further.items (PremisesLead m su rs hs c.args.bounds.budget c.args.bounds.levels c.args.from.candidate.number r (spot_goal s c.args.spot) c.args.spot.path.items 0 r.premises (env_at (store_envs s) c.args.from.candidate.env)) (Below c.in_ok-kid-in-Unanswered.kid))
    (answered_below m su rs x c.facts.ensures.moded c.args.from.noted c.loop-k.notes.items c.args.bounds.budget c.args.bounds.levels c.args.from.candidate.number r s c.args.given.now.facts.now c.args.given.now.pairs.now c.args.from.candidate.env c.args.spot c.requires.terms c.loop-k.store c.ask.new.store c.loop-k.k c.loop-k.env _ (judgement_of c.in-Holds.judgement) (before (goal.at.returns-in-Unanswered-clause-descent c).After-index _ c.in-Holds.is) c.in_ok-next-in-Holds.ensures.grows c.in-Unanswered.terms c.in-Unanswered.further c.in_ok-kid-in-Unanswered.kid (subst (λ a. IsAnswered m c.loop-k.store c.ask.new.store c.loop-k.env (judgement_of c.in-Holds.judgement) (first_given (asked_events m rs c.args.given.now.pairs.now x.judgements c.loop-k.store c.loop-k.env c.args.bounds.levels (judgement_of c.in-Holds.judgement))) (AskedFails m rs c.args.given.now.pairs.now x.judgements c.loop-k.store c.loop-k.env c.args.bounds.levels (judgement_of c.in-Holds.judgement)) a) c.in-Unanswered.is (c.in_ok-next-in-Holds.ensures.answered x.judgements (hyps_stay m rs s c.loop-k.store c.args.given.now.facts.now c.args.given.now.pairs.now x d.grows d.are).facts_are)) c.in_ok-kid-in-Unanswered.ensures)

pub returns-in-Differs-clause-descent : goal.returns-in-Differs-clause-descent
returns-in-Differs-clause-descent c =
    let m = set_modes c.args.given.now.rules.now in
    let su = subject_modes c.args.given.now.rules.now in
    let rs = rules_of c.args.given.now.rules.now in
    let r = rule_of c.args.from.candidate.rule.now in
    let s = c.args.store.now in
    let x = c.loop-k.invariant.0 in
    let d = c.loop-k.invariant.1 in
    λ hyps are. for_hyps m s c.args.given.now.facts.now c.args.given.now.pairs.now x hyps d.are are
    (λ hs. IsDescent m su rs hs c.args.bounds.budget c.args.bounds.levels c.ask.new.store c.loop-k.notes.items (PremisesLead m su rs hs c.args.bounds.budget c.args.bounds.levels c.args.from.candidate.number r (spot_goal s c.args.spot) c.args.spot.path.items 0 r.premises (env_at (store_envs s) c.args.from.candidate.env)) c.differs.result)
    (subst (λ (q : Descent). IsDescent m su rs x c.args.bounds.budget c.args.bounds.levels c.ask.new.store c.loop-k.notes.items (PremisesLead m su rs x c.args.bounds.budget c.args.bounds.levels c.args.from.candidate.number r (spot_goal s c.args.spot) c.args.spot.path.items 0 r.premises (env_at (store_envs s) c.args.from.candidate.env)) q) (sym c.differs.ensures)
    (answered_differs m su rs x c.facts.ensures.moded c.args.from.noted c.loop-k.notes.items c.args.bounds.budget c.args.bounds.levels c.args.from.candidate.number r s c.args.given.now.facts.now c.args.given.now.pairs.now c.args.from.candidate.env c.args.spot c.requires.terms c.loop-k.store c.ask.new.store c.loop-k.k c.loop-k.env _ (judgement_of c.in-Holds.judgement) (before (goal.at.returns-in-Differs-clause-descent c).After-index _ c.in-Holds.is) c.in_ok-next-in-Holds.ensures.grows c.in-Differs.terms c.in-Differs.got c.in_ok-kid-in-Differs.kid (subst (λ a. IsAnswered m c.loop-k.store c.ask.new.store c.loop-k.env (judgement_of c.in-Holds.judgement) (first_given (asked_events m rs c.args.given.now.pairs.now x.judgements c.loop-k.store c.loop-k.env c.args.bounds.levels (judgement_of c.in-Holds.judgement))) (AskedFails m rs c.args.given.now.pairs.now x.judgements c.loop-k.store c.loop-k.env c.args.bounds.levels (judgement_of c.in-Holds.judgement)) a) c.in-Differs.is (c.in_ok-next-in-Holds.ensures.answered x.judgements (hyps_stay m rs s c.loop-k.store c.args.given.now.facts.now c.args.given.now.pairs.now x d.grows d.are).facts_are)) c.in_ok-kid-in-Differs.ensures))

pub loop-k-preserved : goal.loop-k-preserved
loop-k-preserved c =
    let m = set_modes c.args.given.now.rules.now in
    let su = subject_modes c.args.given.now.rules.now in
    let rs = rules_of c.args.given.now.rules.now in
    let r = rule_of c.args.from.candidate.rule.now in
    let s = c.args.store.now in
    let x = c.loop-k.invariant.0 in
    let d = c.loop-k.invariant.1 in
    elim c.match-index.branch [
      | in-Apart+in_ok-instances_apart-in-Apart+else-not-branch w ↦ (x, descending_at m su rs x c.facts.ensures.moded c.args.from.noted c.loop-k.notes.items c.args.bounds.budget c.args.bounds.levels c.args.from.candidate.number r s c.args.given.now.facts.now c.args.given.now.pairs.now c.args.from.candidate.env c.args.spot c.requires.terms _ _ (c.loop-k.k + 1) _ _ _ w.store-is w.env-is (apart_holds m su rs x c.facts.ensures.moded c.args.from.noted c.loop-k.notes.items c.args.bounds.budget c.args.bounds.levels c.args.from.candidate.number r s c.args.given.now.facts.now c.args.given.now.pairs.now c.args.from.candidate.env c.args.spot c.requires.terms c.loop-k.store (record { arena = w.instances_apart.new.arena; binds = c.loop-k.store.binds; kids = c.loop-k.store.kids; frames = c.loop-k.store.frames; until = c.loop-k.store.until }) c.loop-k.k c.loop-k.env _ _ _ (before (goal.at.loop-k-preserved c).After-index _ w.in-Apart.is) _ w.in_ok-instances_apart-in-Apart.ensures refl refl refl refl w.if-not-branch.false))
      | in-Holds+else-is_noted+in_ok-next-in-Holds+in-Matched w ↦ (x, descending_at m su rs x c.facts.ensures.moded c.args.from.noted c.loop-k.notes.items c.args.bounds.budget c.args.bounds.levels c.args.from.candidate.number r s c.args.given.now.facts.now c.args.given.now.pairs.now c.args.from.candidate.env c.args.spot c.requires.terms _ _ (c.loop-k.k + 1) _ _ _ w.store-is w.env-is (answered_matched m su rs x c.facts.ensures.moded c.args.from.noted c.loop-k.notes.items c.args.bounds.budget c.args.bounds.levels c.args.from.candidate.number r s c.args.given.now.facts.now c.args.given.now.pairs.now c.args.from.candidate.env c.args.spot c.requires.terms c.loop-k.store w.ask.new.store c.loop-k.k c.loop-k.env _ (judgement_of w.in-Holds.judgement) (before (goal.at.loop-k-preserved c).After-index _ w.in-Holds.is) w.in_ok-next-in-Holds.ensures.grows (λ n. (let a = w.is_noted.ensures.1 n in let b = w.if-is_noted.false in let z : ⊥ = cc in z)) w.in-Matched.next (subst (λ a. IsAnswered m c.loop-k.store w.ask.new.store c.loop-k.env (judgement_of w.in-Holds.judgement) (first_given (asked_events m rs c.args.given.now.pairs.now x.judgements c.loop-k.store c.loop-k.env c.args.bounds.levels (judgement_of w.in-Holds.judgement))) (AskedFails m rs c.args.given.now.pairs.now x.judgements c.loop-k.store c.loop-k.env c.args.bounds.levels (judgement_of w.in-Holds.judgement)) a) w.in-Matched.is (w.in_ok-next-in-Holds.ensures.answered x.judgements (hyps_stay m rs s c.loop-k.store c.args.given.now.facts.now c.args.given.now.pairs.now x d.grows d.are).facts_are))))
    ]

pub returns-clause-grows : goal.returns-clause-grows
returns-clause-grows c =
    let m = set_modes c.args.given.now.rules.now in
    let su = subject_modes c.args.given.now.rules.now in
    let rs = rules_of c.args.given.now.rules.now in
    let r = rule_of c.args.from.candidate.rule.now in
    let s = c.args.store.now in
    let x = c.loop-k.invariant.0 in
    let d = c.loop-k.invariant.1 in
    let d' = descending_as m su rs x c.facts.ensures.moded c.args.from.noted c.loop-k.notes.items c.args.bounds.budget c.args.bounds.levels c.args.from.candidate.number r s c.args.given.now.facts.now c.args.given.now.pairs.now c.args.from.candidate.env c.args.spot c.requires.terms c.loop-k.store c.loop-k.k c.loop-k.env _ _ (drop_premises_end c.args.from.candidate.rule.now.premises.items c.loop-k.k (let a = c.loop-k-test.false in let b = c.len-k-end.ensures in let e = c.args.from.candidate.rule.now.premises.ok in omega arith)) d in
    let made = c.in_ok-got.ensures in
    end_grown m su rs x c.facts.ensures.moded c.args.from.noted c.loop-k.notes.items c.args.bounds.budget c.args.bounds.levels c.args.from.candidate.number r s c.args.given.now.facts.now c.args.given.now.pairs.now c.args.from.candidate.env c.args.spot c.requires.terms c.loop-k.store c.made_outputs.new.store c.loop-k.k c.loop-k.env [] d' c.in_ok-got.got made.held made.binds made.kids made.frames made.until

pub returns-clause-descent : goal.returns-clause-descent
returns-clause-descent c =
    let m = set_modes c.args.given.now.rules.now in
    let su = subject_modes c.args.given.now.rules.now in
    let rs = rules_of c.args.given.now.rules.now in
    let r = rule_of c.args.from.candidate.rule.now in
    let s = c.args.store.now in
    let x = c.loop-k.invariant.0 in
    let d = c.loop-k.invariant.1 in
    let d' = descending_as m su rs x c.facts.ensures.moded c.args.from.noted c.loop-k.notes.items c.args.bounds.budget c.args.bounds.levels c.args.from.candidate.number r s c.args.given.now.facts.now c.args.given.now.pairs.now c.args.from.candidate.env c.args.spot c.requires.terms c.loop-k.store c.loop-k.k c.loop-k.env _ _ (drop_premises_end c.args.from.candidate.rule.now.premises.items c.loop-k.k (let a = c.loop-k-test.false in let b = c.len-k-end.ensures in let e = c.args.from.candidate.rule.now.premises.ok in omega arith)) d in
    let made = c.in_ok-got.ensures in
    λ hyps are. for_hyps m s c.args.given.now.facts.now c.args.given.now.pairs.now x hyps d.are are
    (λ hs. IsDescent m su rs hs c.args.bounds.budget c.args.bounds.levels c.made_outputs.new.store c.loop-k.notes.items (PremisesLead m su rs hs c.args.bounds.budget c.args.bounds.levels c.args.from.candidate.number r (spot_goal s c.args.spot) c.args.spot.path.items 0 r.premises (env_at (store_envs s) c.args.from.candidate.env)) c.unwanted.result)
    (subst (λ (q : Descent). IsDescent m su rs x c.args.bounds.budget c.args.bounds.levels c.made_outputs.new.store c.loop-k.notes.items (PremisesLead m su rs x c.args.bounds.budget c.args.bounds.levels c.args.from.candidate.number r (spot_goal s c.args.spot) c.args.spot.path.items 0 r.premises (env_at (store_envs s) c.args.from.candidate.env)) q) (sym c.unwanted.ensures)
    (end_stuck m su rs x c.facts.ensures.moded c.args.from.noted c.loop-k.notes.items c.args.bounds.budget c.args.bounds.levels c.args.from.candidate.number r s c.args.given.now.facts.now c.args.given.now.pairs.now c.args.from.candidate.env c.args.spot c.requires.terms c.loop-k.store c.made_outputs.new.store c.loop-k.k c.loop-k.env [] d' c.in_ok-got.got made.held made.binds made.kids made.frames made.until))

pub loop-k-init : goal.loop-k-init
loop-k-init c =
    let q = c.requires.quiet in
    (q.0, descending_first (set_modes c.args.given.now.rules.now) (subject_modes c.args.given.now.rules.now) (rules_of c.args.given.now.rules.now) q.0 c.facts.ensures.moded c.args.from.noted c.args.notes.now.items c.args.bounds.budget c.args.bounds.levels c.args.from.candidate.number (rule_of c.args.from.candidate.rule.now) c.args.store.now c.args.given.now.facts.now c.args.given.now.pairs.now c.args.from.candidate.env c.args.spot c.requires.terms c.requires.store q.1 c.requires.env q.2 q.3)

pub made_inputs-requires-clause-shallow : goal.made_inputs-requires-clause-shallow
made_inputs-requires-clause-shallow c =
    let h = subst IsShallowPremise c.in-Holds.is (shallow_premise_at _ c.requires.shallow.1 c.loop-k.k _ (there (goal.at.made_inputs-requires-clause-shallow c).After-index) c.index.ensures) in
    h

pub made_inputs-requires-clause-store : goal.made_inputs-requires-clause-store
made_inputs-requires-clause-store c = c.loop-k.invariant.1.grows.store

pub made_inputs-requires-clause-env : goal.made_inputs-requires-clause-env
made_inputs-requires-clause-env c = c.loop-k.invariant.1.within

pub returns-then-is_noted-clause-grows : goal.returns-then-is_noted-clause-grows
returns-then-is_noted-clause-grows c =
    let m = set_modes c.args.given.now.rules.now in
    let su = subject_modes c.args.given.now.rules.now in
    let rs = rules_of c.args.given.now.rules.now in
    let r = rule_of c.args.from.candidate.rule.now in
    let s = c.args.store.now in
    let x = c.loop-k.invariant.0 in
    let made = c.in_ok-terms-in-Holds.ensures in
    noted_grown m su rs x c.facts.ensures.moded c.args.from.noted c.loop-k.notes.items c.args.bounds.budget c.args.bounds.levels c.args.from.candidate.number r s c.args.given.now.facts.now c.args.given.now.pairs.now c.args.from.candidate.env c.args.spot c.requires.terms c.loop-k.store c.made_inputs.new.store c.loop-k.k c.loop-k.env _ (judgement_of c.in-Holds.judgement) (before (goal.at.returns-then-is_noted-clause-grows c).After-index _ c.in-Holds.is) (c.is_noted.ensures.0 c.if-is_noted.true) c.in_ok-terms-in-Holds.terms.items made.held made.binds made.kids made.frames made.until

pub returns-then-is_noted-clause-descent : goal.returns-then-is_noted-clause-descent
returns-then-is_noted-clause-descent c =
    let m = set_modes c.args.given.now.rules.now in
    let su = subject_modes c.args.given.now.rules.now in
    let rs = rules_of c.args.given.now.rules.now in
    let r = rule_of c.args.from.candidate.rule.now in
    let s = c.args.store.now in
    let x = c.loop-k.invariant.0 in
    let d = c.loop-k.invariant.1 in
    let made = c.in_ok-terms-in-Holds.ensures in
    λ hyps are. for_hyps m s c.args.given.now.facts.now c.args.given.now.pairs.now x hyps d.are are
    (λ hs. IsDescent m su rs hs c.args.bounds.budget c.args.bounds.levels c.made_inputs.new.store c.loop-k.notes.items (PremisesLead m su rs hs c.args.bounds.budget c.args.bounds.levels c.args.from.candidate.number r (spot_goal s c.args.spot) c.args.spot.path.items 0 r.premises (env_at (store_envs s) c.args.from.candidate.env)) (Below c.in_ok-kid-in-Holds.kid))
    (noted_below m su rs x c.facts.ensures.moded c.args.from.noted c.loop-k.notes.items c.args.bounds.budget c.args.bounds.levels c.args.from.candidate.number r s c.args.given.now.facts.now c.args.given.now.pairs.now c.args.from.candidate.env c.args.spot c.requires.terms c.loop-k.store c.made_inputs.new.store c.loop-k.k c.loop-k.env _ (judgement_of c.in-Holds.judgement) (before (goal.at.returns-then-is_noted-clause-descent c).After-index _ c.in-Holds.is) (c.is_noted.ensures.0 c.if-is_noted.true) c.in_ok-terms-in-Holds.terms.items made.held made.binds made.kids made.frames made.until c.in_ok-kid-in-Holds.kid c.in_ok-kid-in-Holds.ensures)

pub instances_apart-requires-clause-arena : goal.instances_apart-requires-clause-arena
instances_apart-requires-clause-arena c = c.loop-k.invariant.1.grows.store.arena

pub instances_apart-requires-clause-binds : goal.instances_apart-requires-clause-binds
instances_apart-requires-clause-binds c = c.loop-k.invariant.1.grows.store.binds

pub instances_apart-requires-clause-env : goal.instances_apart-requires-clause-env
instances_apart-requires-clause-env c = c.loop-k.invariant.1.within

pub ask-requires-clause-store : goal.ask-requires-clause-store
ask-requires-clause-store c = c.loop-k.invariant.1.grows.store

pub ask-requires-clause-env : goal.ask-requires-clause-env
ask-requires-clause-env c = c.loop-k.invariant.1.within

pub returns-in-Unanswered-clause-grows : goal.returns-in-Unanswered-clause-grows
returns-in-Unanswered-clause-grows c = grows_then _ _ _ _ _ c.loop-k.invariant.1.grows c.in_ok-next-in-Holds.ensures.grows

pub returns-in-Differs-clause-grows : goal.returns-in-Differs-clause-grows
returns-in-Differs-clause-grows c = grows_then _ _ _ _ _ c.loop-k.invariant.1.grows c.in_ok-next-in-Holds.ensures.grows
