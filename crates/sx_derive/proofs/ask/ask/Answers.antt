use Rattle.std.proofs.Common.{List, ◌<◌, map, length, refl, sym, ◌∙◌, arith, subst}
use Rattle.sx_arena.specs.Places.{selected}
use Rattle.sx_term.specs.Term.{tree}
use Rattle.sx_rules.specs.Rules.{Judgement}
use Rattle.sx_arena.specs.Matching.{match_all}
use Rattle.sx_arena.specs.Arena.{tree_at, AreBelow}
use Rattle.sx_derive.specs.Givens.{GrowsIn, HasFacts}
use Rattle.sx_derive.specs.Asking.{asked_goal, asked_events}
use Rattle.sx_arena.specs.Binds.{env_at}
use Rattle.sx_derive.specs.Handing.{hyps_in}
use Rattle.sx_derive.specs.Quiet.{IsQuiet}
use Rattle.sx_derive.specs.Store.{store_trees, store_envs}
use Rattle.sx_arena.specs.Views.{rules_of, set_modes, judgement_of}
use Rattle.sx_derive.proofs.Asked.{quiet_level, made_grows, made_events, ask_none, ask_differs, ask_matches, facts_unique}
use Rattle.sx_arena.proofs.Growing.{extends-length}
use Rattle.sx_arena.proofs.Parted.{pairs_more_terms}
use Rattle.sx_derive.proofs.Premised.{stays}
use Rattle.sx_derive.proofs.Stored.{grows_then, grows_binds}
use Rattle.sx_arena.proofs.Facts.{facts_stay}
use Rattle.sx_derive.proofs.ask.ask.Goals as goal
use Rattle.sx_derive.proofs.ask.ask.Goals.{After-made_inputs, In_ok-terms, In_ok-first}

-- the goal has a level
level : (c : After-made_inputs) → 0 < c.args.bounds.levels
level c =
    let b = c.requires.facts in
    quiet_level (set_modes c.args.given.now.rules.now) (rules_of c.args.given.now.rules.now) (hyps_in c.args.given.now.pairs.now c.args.store.now b.0) c.args.bounds.budget c.args.bounds.levels (asked_goal (set_modes c.args.given.now.rules.now) c.args.store.now c.args.env (judgement_of c.args.judgement.now)) (c.requires.quiet b.0 b.1)

-- where the terms are made the store goes on
grown : (c : In_ok-terms) → GrowsIn c.args.given.now c.args.store.now c.made_inputs.new.store
grown c = made_grows (set_modes c.args.given.now.rules.now) (rules_of c.args.given.now.rules.now) c.args.given.now.pairs.now c.args.store.now c.made_inputs.new.store c.args.env c.args.bounds.levels c.args.bounds.budget (judgement_of c.args.judgement.now) c.in_ok-terms.terms.items c.requires.store c.requires.pairs c.requires.env c.in_ok-terms.ensures.held c.in_ok-terms.ensures.binds c.in_ok-terms.ensures.kids c.in_ok-terms.ensures.frames c.in_ok-terms.ensures.until

-- and the facts are of the same judgements
facts_there : (c : In_ok-terms) (js : List Judgement) → HasFacts c.args.given.now c.args.store.now js → HasFacts c.args.given.now c.made_inputs.new.store js
facts_there c js a = facts_stay (set_modes c.args.given.now.rules.now) (store_trees c.args.store.now) (store_trees c.made_inputs.new.store) c.in_ok-terms.ensures.held.extends js c.args.given.now.facts.now a

-- so it does where the first answer is found
answered : (c : In_ok-first) → GrowsIn c.args.given.now c.args.store.now c.made_inputs.new.store → HasFacts c.args.given.now c.made_inputs.new.store c.requires.facts.0 → GrowsIn c.args.given.now c.args.store.now c.first_noted.new.store
answered c g a = grows_then (set_modes c.args.given.now.rules.now) (rules_of c.args.given.now.rules.now) c.args.store.now c.made_inputs.new.store c.first_noted.new.store g (c.in_ok-first.ensures c.requires.facts.0 a).0

pub overflow_sub-goal : goal.overflow_sub-goal
overflow_sub-goal c = let l = level (goal.at.overflow_sub-goal c).After-made_inputs in omega arith

pub first_noted-requires-clause-facts : goal.first_noted-requires-clause-facts
first_noted-requires-clause-facts c =
    (c.requires.facts.0, (facts_there (goal.at.first_noted-requires-clause-facts c).In_ok-terms c.requires.facts.0 c.requires.facts.1))

pub first_noted-requires-clause-store : goal.first_noted-requires-clause-store
first_noted-requires-clause-store c =
    (grown (goal.at.first_noted-requires-clause-store c).In_ok-terms).store

pub first_noted-requires-clause-pairs : goal.first_noted-requires-clause-pairs
first_noted-requires-clause-pairs c =
    pairs_more_terms _ _ (extends-length _ _ c.in_ok-terms.ensures.held.extends) _ c.requires.pairs

pub first_noted-requires-clause-levels : goal.first_noted-requires-clause-levels
first_noted-requires-clause-levels c = let l = c.requires.levels in omega arith

pub first_noted-requires-clause-quiet : goal.first_noted-requires-clause-quiet
first_noted-requires-clause-quiet c =
    let w = goal.at.first_noted-requires-clause-quiet c in
    λ js a.
    let e = facts_unique (set_modes c.args.given.now.rules.now) (store_trees c.made_inputs.new.store) c.requires.facts.0 js c.args.given.now.facts.now (facts_there w.In_ok-terms c.requires.facts.0 c.requires.facts.1) a in
    subst (IsQuiet c.args.bounds.budget) (sym (made_events (set_modes c.args.given.now.rules.now) (rules_of c.args.given.now.rules.now) c.args.given.now.pairs.now c.args.store.now c.made_inputs.new.store c.args.env c.args.bounds.levels c.args.bounds.budget (judgement_of c.args.judgement.now) c.in_ok-terms.terms.items c.requires.store c.requires.pairs c.requires.env c.in_ok-terms.ensures.held c.in_ok-terms.ensures.binds c.in_ok-terms.ensures.kids c.in_ok-terms.ensures.frames c.in_ok-terms.ensures.until js (level w.After-made_inputs))) (subst (λ (ks : List Judgement). IsQuiet c.args.bounds.budget (asked_events (set_modes c.args.given.now.rules.now) (rules_of c.args.given.now.rules.now) c.args.given.now.pairs.now ks c.args.store.now c.args.env c.args.bounds.levels (judgement_of c.args.judgement.now))) e (c.requires.quiet c.requires.facts.0 c.requires.facts.1))

pub fit_places-requires-clause-arena : goal.fit_places-requires-clause-arena
fit_places-requires-clause-arena c =
    let w = goal.at.fit_places-requires-clause-arena c in
    (answered w.In_ok-first (grown w.In_ok-terms) (facts_there w.In_ok-terms c.requires.facts.0 c.requires.facts.1)).store.arena

pub fit_places-requires-clause-binds : goal.fit_places-requires-clause-binds
fit_places-requires-clause-binds c =
    let w = goal.at.fit_places-requires-clause-binds c in
    (answered w.In_ok-first (grown w.In_ok-terms) (facts_there w.In_ok-terms c.requires.facts.0 c.requires.facts.1)).store.binds

pub fit_places-requires-clause-env : goal.fit_places-requires-clause-env
fit_places-requires-clause-env c =
    let w = goal.at.fit_places-requires-clause-env c in
    (stays (set_modes c.args.given.now.rules.now) (rules_of c.args.given.now.rules.now) c.args.store.now c.first_noted.new.store c.args.env 0 0 (answered w.In_ok-first (grown w.In_ok-terms) (facts_there w.In_ok-terms c.requires.facts.0 c.requires.facts.1)) c.requires.env (omega arith) (omega arith)).env_within

pub fit_places-requires-clause-terms : goal.fit_places-requires-clause-terms
fit_places-requires-clause-terms c =
    let r0 = rw c.in-Answer.is at (c.in_ok-first.ensures c.requires.facts.0 (facts_there (goal.at.fit_places-requires-clause-terms c).In_ok-terms c.requires.facts.0 c.requires.facts.1)) in
    subst (λ is. AreBelow (length (store_trees c.first_noted.new.store)) is) (sym c.deref-in-Answer.ensures.value) r0.1.0

pub returns-in-Nothing-clause-grows : goal.returns-in-Nothing-clause-grows
returns-in-Nothing-clause-grows c =
    let w = goal.at.returns-in-Nothing-clause-grows c in
    (answered w.In_ok-first (grown w.In_ok-terms) (facts_there w.In_ok-terms c.requires.facts.0 c.requires.facts.1))

pub returns-in-Nothing-clause-answered : goal.returns-in-Nothing-clause-answered
returns-in-Nothing-clause-answered c =
    let w = goal.at.returns-in-Nothing-clause-answered c in
    λ js a. ask_none (set_modes c.args.given.now.rules.now) (rules_of c.args.given.now.rules.now) c.args.given.now.pairs.now c.args.store.now c.made_inputs.new.store c.args.env c.args.bounds.levels c.args.bounds.budget (judgement_of c.args.judgement.now) c.in_ok-terms.terms.items c.requires.store c.requires.pairs c.requires.env c.in_ok-terms.ensures.held c.in_ok-terms.ensures.binds c.in_ok-terms.ensures.kids c.in_ok-terms.ensures.frames c.in_ok-terms.ensures.until c.first_noted.new.store c.in_ok-kept.kept (c.in_ok-kept.ensures ∙ c.deref.ensures.value) js (level w.After-made_inputs) c.in-Nothing.further (rw c.in-Nothing.is at (c.in_ok-first.ensures js (facts_there w.In_ok-terms js a)))

pub returns-in-None-clause-grows : goal.returns-in-None-clause-grows
returns-in-None-clause-grows c =
    let w = goal.at.returns-in-None-clause-grows c in
    grows_then (set_modes c.args.given.now.rules.now) (rules_of c.args.given.now.rules.now) c.args.store.now c.first_noted.new.store (record { arena = c.first_noted.new.store.arena; binds = c.fit_places.new.binds; kids = c.first_noted.new.store.kids; frames = c.first_noted.new.store.frames; until = c.first_noted.new.store.until }) (answered w.In_ok-first (grown w.In_ok-terms) (facts_there w.In_ok-terms c.requires.facts.0 c.requires.facts.1)) (grows_binds (set_modes c.args.given.now.rules.now) (rules_of c.args.given.now.rules.now) c.first_noted.new.store (record { arena = c.first_noted.new.store.arena; binds = c.fit_places.new.binds; kids = c.first_noted.new.store.kids; frames = c.first_noted.new.store.frames; until = c.first_noted.new.store.until }) (answered w.In_ok-first (grown w.In_ok-terms) (facts_there w.In_ok-terms c.requires.facts.0 c.requires.facts.1)).store c.in_ok-fit-in-Answer.ensures.grows refl refl refl refl)

pub returns-in-Some-clause-grows : goal.returns-in-Some-clause-grows
returns-in-Some-clause-grows c =
    let w = goal.at.returns-in-Some-clause-grows c in
    grows_then (set_modes c.args.given.now.rules.now) (rules_of c.args.given.now.rules.now) c.args.store.now c.first_noted.new.store (record { arena = c.first_noted.new.store.arena; binds = c.fit_places.new.binds; kids = c.first_noted.new.store.kids; frames = c.first_noted.new.store.frames; until = c.first_noted.new.store.until }) (answered w.In_ok-first (grown w.In_ok-terms) (facts_there w.In_ok-terms c.requires.facts.0 c.requires.facts.1)) (grows_binds (set_modes c.args.given.now.rules.now) (rules_of c.args.given.now.rules.now) c.first_noted.new.store (record { arena = c.first_noted.new.store.arena; binds = c.fit_places.new.binds; kids = c.first_noted.new.store.kids; frames = c.first_noted.new.store.frames; until = c.first_noted.new.store.until }) (answered w.In_ok-first (grown w.In_ok-terms) (facts_there w.In_ok-terms c.requires.facts.0 c.requires.facts.1)).store c.in_ok-fit-in-Answer.ensures.grows refl refl refl refl)

pub returns-in-None-clause-answered : goal.returns-in-None-clause-answered
returns-in-None-clause-answered c =
    let w = goal.at.returns-in-None-clause-answered c in
    λ js a. ask_differs (set_modes c.args.given.now.rules.now) (rules_of c.args.given.now.rules.now) c.args.given.now.pairs.now c.args.store.now c.made_inputs.new.store c.args.env c.args.bounds.levels c.args.bounds.budget (judgement_of c.args.judgement.now) c.in_ok-terms.terms.items c.requires.store c.requires.pairs c.requires.env c.in_ok-terms.ensures.held c.in_ok-terms.ensures.binds c.in_ok-terms.ensures.kids c.in_ok-terms.ensures.frames c.in_ok-terms.ensures.until c.first_noted.new.store c.in_ok-kept.kept (c.in_ok-kept.ensures ∙ c.deref.ensures.value) js (level w.After-made_inputs) c.in-Answer.got (rw c.in-Answer.is at (c.in_ok-first.ensures js (facts_there w.In_ok-terms js a))) (record { arena = c.first_noted.new.store.arena; binds = c.fit_places.new.binds; kids = c.first_noted.new.store.kids; frames = c.first_noted.new.store.frames; until = c.first_noted.new.store.until }) c.in_ok-fit-in-Answer.ensures.grows refl refl refl refl
    ((λ i. match_all (selected (sym c.new-side.ensures.outputs i) (sym c.new-side.ensures.roles i) (map tree (sym c.new-side.ensures.places i))) (map (tree_at (store_trees c.first_noted.new.store)) (sym c.deref-in-Answer.ensures.value i)) (env_at (store_envs c.first_noted.new.store) c.args.env)) ∙ (rw c.in-None.is at c.in_ok-fit-in-Answer.ensures.fit))

pub returns-in-Some-clause-answered : goal.returns-in-Some-clause-answered
returns-in-Some-clause-answered c =
    let w = goal.at.returns-in-Some-clause-answered c in
    λ js a.
    let k = rw c.in-Some.is at c.in_ok-fit-in-Answer.ensures.fit in
    ask_matches (set_modes c.args.given.now.rules.now) (rules_of c.args.given.now.rules.now) c.args.given.now.pairs.now c.args.store.now c.made_inputs.new.store c.args.env c.args.bounds.levels c.args.bounds.budget (judgement_of c.args.judgement.now) c.in_ok-terms.terms.items c.requires.store c.requires.pairs c.requires.env c.in_ok-terms.ensures.held c.in_ok-terms.ensures.binds c.in_ok-terms.ensures.kids c.in_ok-terms.ensures.frames c.in_ok-terms.ensures.until c.first_noted.new.store c.in_ok-kept.kept (c.in_ok-kept.ensures ∙ c.deref.ensures.value) js (level w.After-made_inputs) c.in-Answer.got (rw c.in-Answer.is at (c.in_ok-first.ensures js (facts_there w.In_ok-terms js a))) (record { arena = c.first_noted.new.store.arena; binds = c.fit_places.new.binds; kids = c.first_noted.new.store.kids; frames = c.first_noted.new.store.frames; until = c.first_noted.new.store.until }) c.in_ok-fit-in-Answer.ensures.grows refl refl refl refl c.in-Some.next k.0
    ((λ i. match_all (selected (sym c.new-side.ensures.outputs i) (sym c.new-side.ensures.roles i) (map tree (sym c.new-side.ensures.places i))) (map (tree_at (store_trees c.first_noted.new.store)) (sym c.deref-in-Answer.ensures.value i)) (env_at (store_envs c.first_noted.new.store) c.args.env)) ∙ k.1)
