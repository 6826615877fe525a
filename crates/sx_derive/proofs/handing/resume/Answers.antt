use Rattle.std.proofs.Common.{◌≡◌, ◌<◌, Some, List, map, refl, sym, ◌∙◌, subst, length, arith}
use Rattle.std.specs.Prelude.{slice_get}
use Rattle.sx_arena.specs.Places.{selected}
use Rattle.std.proofs.lemmas.Option.{slice_get_within}
use Rattle.std.proofs.lemmas.List.{length-map}
use Rattle.sx_term.specs.Term.{tree}
use Rattle.sx_rules.specs.Rules.{holds}
use Rattle.sx_rules.specs.declared.rule.Premise.TheVariants.{Apart}
use Rattle.sx_rules.specs.Deep.{AreShallow}
use Rattle.sx_arena.specs.Matching.{match_all}
use Rattle.sx_arena.specs.Arena.{tree_at}
use Rattle.sx_arena.specs.Binds.{env_at}
use Rattle.sx_derive.specs.declared.store.Store.{Store}
use Rattle.sx_derive.specs.Store.{store_trees, store_envs}
use Rattle.sx_arena.specs.Views.{rules_of, set_modes, rule_of, premise_of, judgement_of}
use Rattle.sx_arena.proofs.Patterns.{ok_weaker}
use Rattle.sx_derive.proofs.Premised.{IsShallowPremise, shallow_premise_at, premise_get}
use Rattle.sx_derive.proofs.Resumed.{shallow_at, sizes, waits_at, holds_at, resumed_none, resumed_more, kid_store}
use Rattle.sx_derive.proofs.handing.resume.Goals as goal
use Rattle.sx_derive.proofs.handing.resume.Goals.{In-Holds}

-- the frame waits for the premise at hand
waiting : (c : In-Holds) → (c.args.frame.premise < length c.rule_at-rule.result.now.premises.items) × (slice_get (map premise_of c.rule_at-rule.result.now.premises.items) c.args.frame.premise ≡ Some (holds (judgement_of c.in-Holds.judgement)))
waiting c = holds_at _ _ _ _ _ (waits_at _ _ c.args.store.now _ c.requires.frame _ c.rule_at-rule.ensures).1 c.index.ensures c.in-Holds.is

pub fit_places-requires-clause-shallow : goal.fit_places-requires-clause-shallow
fit_places-requires-clause-shallow c =
    let l = waiting (goal.at.fit_places-requires-clause-shallow c).In-Holds in
    let r = shallow_at _ _ _ c.requires.shallow c.rule_at-rule.ensures in
    subst (λ (xs : List _). AreShallow (map tree xs)) (sym c.new-side.ensures.places) (subst IsShallowPremise c.in-Holds.is (shallow_premise_at _ r.1 c.args.frame.premise _ l.0 c.index.ensures))

pub fit_places-requires-clause-env : goal.fit_places-requires-clause-env
fit_places-requires-clause-env c =
    let z = sizes (set_modes c.args.given.now.rules.now) (rules_of c.args.given.now.rules.now) c.args.store.now in
    let e = z.envs in
    let w = c.requires.frame.env in
    omega arith

pub overflow_add-from : goal.overflow_add-from
overflow_add-from c =
    let l = (waiting (goal.at.overflow_add-from c).In-Holds).0 in
    let k = c.rule_at-rule.result.now.premises.ok in
    omega arith

pub premises-requires-clause-shallow : goal.premises-requires-clause-shallow
premises-requires-clause-shallow c = shallow_at _ _ _ c.requires.shallow c.rule_at-rule.ensures

pub premises-requires-clause-store : goal.premises-requires-clause-store
premises-requires-clause-store c =
    let s = c.args.store.now in
    let t : Store = record { arena = s.arena; binds = c.fit_places.new.binds; kids = s.kids; frames = s.frames; until = s.until } in
    kid_store (set_modes c.args.given.now.rules.now) (rules_of c.args.given.now.rules.now) s t (record { arena = s.arena; binds = c.fit_places.new.binds; kids = c.push_kid.new.kids; frames = s.frames; until = s.until }) c.args.frame c.args.head
    c.requires.store c.requires.frame c.requires.head c.in_ok-fit-in-Holds.ensures.grows refl refl refl refl refl refl c.in_ok-kids-in-Some.ensures.items refl refl

pub premises-requires-clause-frames : goal.premises-requires-clause-frames
premises-requires-clause-frames c =
    let z = sizes (set_modes c.args.given.now.rules.now) (rules_of c.args.given.now.rules.now) c.args.store.now in
    let e = z.frames in
    let w = c.requires.frame.before in
    omega arith

pub premises-requires-clause-until : goal.premises-requires-clause-until
premises-requires-clause-until c =
    let z = sizes (set_modes c.args.given.now.rules.now) (rules_of c.args.given.now.rules.now) c.args.store.now in
    let e = z.frames in
    let o = c.requires.store.until in
    c.requires.frame.above (omega arith)

pub returns-in-None : goal.returns-in-None
returns-in-None c =
    let l = waiting (goal.at.returns-in-None c).In-Holds in
    let s = c.args.store.now in
    resumed_none (set_modes c.args.given.now.rules.now) (rules_of c.args.given.now.rules.now) _ s (record { arena = s.arena; binds = c.fit_places.new.binds; kids = s.kids; frames = s.frames; until = s.until }) c.args.frame (rule_of c.rule_at-rule.result.now) (judgement_of c.in-Holds.judgement) c.args.head c.args.outputs.now
    c.requires.store c.requires.pairs c.requires.frame c.rule_at-rule.ensures l.1 c.requires.head c.in_ok-fit-in-Holds.ensures.grows refl refl refl refl
    ((λ i. match_all (selected (sym c.new-side.ensures.outputs i) (sym c.new-side.ensures.roles i) (map tree (sym c.new-side.ensures.places i))) (map (tree_at (store_trees s)) c.args.outputs.now) (env_at (store_envs s) c.args.frame.env))
    ∙ (rw c.in-None.is at c.in_ok-fit-in-Holds.ensures.fit))

pub returns-in_ok-kids-in-Some : goal.returns-in_ok-kids-in-Some
returns-in_ok-kids-in-Some c =
    let l = waiting (goal.at.returns-in_ok-kids-in-Some c).In-Holds in
    let s = c.args.store.now in
    let f = rw c.in-Some.is at c.in_ok-fit-in-Holds.ensures.fit in
    ok_weaker _ _ (λ step p. resumed_more (set_modes c.args.given.now.rules.now) (rules_of c.args.given.now.rules.now) _ s (record { arena = s.arena; binds = c.fit_places.new.binds; kids = s.kids; frames = s.frames; until = s.until }) c.args.frame (rule_of c.rule_at-rule.result.now) (judgement_of c.in-Holds.judgement) c.args.head c.args.outputs.now
    c.requires.store c.requires.pairs c.requires.frame c.rule_at-rule.ensures l.1 c.requires.head c.in_ok-fit-in-Holds.ensures.grows refl refl refl refl
    (record { arena = s.arena; binds = c.fit_places.new.binds; kids = c.push_kid.new.kids; frames = s.frames; until = s.until }) c.premises.new.store c.in-Some.env _ step f.0
    ((λ i. match_all (selected (sym c.new-side.ensures.outputs i) (sym c.new-side.ensures.roles i) (map tree (sym c.new-side.ensures.places i))) (map (tree_at (store_trees s)) c.args.outputs.now) (env_at (store_envs s) c.args.frame.env)) ∙ f.1)
    refl refl c.in_ok-kids-in-Some.ensures.items refl refl c.in_ok-kids-in-Some.ensures.chain p) c.premises.result c.premises.ensures

pub rule_at-rule-requires : goal.rule_at-rule-requires
rule_at-rule-requires c = slice_get_within (rules_of c.args.given.now.rules.now) c.args.frame.rule _ c.requires.frame.waits.2

pub index-requires : goal.index-requires
index-requires c =
    let x = waits_at _ _ c.args.store.now _ c.requires.frame _ c.rule_at-rule.ensures in
    let l = slice_get_within (map premise_of c.rule_at-rule.result.now.premises.items) c.args.frame.premise _ x.1 in
    let m = length-map c.rule_at-rule.result.now.premises.items premise_of in
    omega arith

pub unreachable-requires : goal.unreachable-requires
unreachable-requires c =
    let x = waits_at _ _ c.args.store.now _ c.requires.frame _ c.rule_at-rule.ensures in
    let ps = c.rule_at-rule.result.now.premises.items in
    let l = slice_get_within (map premise_of ps) c.args.frame.premise _ x.1 in
    let m = length-map ps premise_of in
    let same : Some (holds x.0) ≡ Some (premise_of (Apart c.in-Apart.field-0 c.in-Apart.field-1)) = sym x.1 ∙ premise_get ps c.args.frame.premise _ _ (omega arith) c.index.ensures c.in-Apart.is in
    cc

pub premises-requires-clause-env : goal.premises-requires-clause-env
premises-requires-clause-env c = (rw c.in-Some.is at c.in_ok-fit-in-Holds.ensures.fit).0
