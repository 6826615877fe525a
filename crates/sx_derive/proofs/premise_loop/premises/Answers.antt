use Rattle.std.proofs.Common.{refl, subst, length, ◌<◌, arith}
use Rattle.sx_arena.specs.Views.{rule_of, rules_of, set_modes}
use Rattle.sx_arena.proofs.Growing.{extends-length}
use Rattle.sx_arena.proofs.Patterns.{ok_weaker}
use Rattle.sx_arena.proofs.Parted.{pairs_more_terms}
use Rattle.sx_derive.proofs.Premised.{IsShallowPremise, Stays, stays, shallow_premise_at, drop_premise, drop_premises_end, passed_as, premise_get, apart_fails, apart_holds, asked_is, concluded_is}
use Rattle.sx_derive.proofs.premise_loop.premises.Goals as goal
use Rattle.sx_derive.proofs.premise_loop.premises.Goals.{At-loop-k, After-index}

-- the premise at hand is one of the rule's
within : (c : After-index) → c.loop-k.k < length c.args.rule.now.premises.items
within c = let a = c.loop-k-test.true in let b = c.len-k-end.ensures in let d = c.args.rule.now.premises.ok in omega arith

-- what was there stays
stayed : (c : At-loop-k) → Stays (set_modes c.args.given.now.rules.now) (rules_of c.args.given.now.rules.now) c.args.store.now c.loop-k.store c.args.from.env c.args.from.kids c.args.from.before
stayed c =
    stays (set_modes c.args.given.now.rules.now) (rules_of c.args.given.now.rules.now) c.args.store.now c.loop-k.store c.args.from.env c.args.from.kids c.args.from.before c.loop-k.invariant.grows c.requires.env c.requires.kids c.requires.frames

pub instances_apart-requires-clause-first : goal.instances_apart-requires-clause-first
instances_apart-requires-clause-first c =
    let l = within (goal.at.instances_apart-requires-clause-first c).After-index in
    let s = subst IsShallowPremise c.in-Apart.is (shallow_premise_at _ c.requires.shallow.1 c.loop-k.k _ l c.index.ensures) in
    s.0

pub instances_apart-requires-clause-second : goal.instances_apart-requires-clause-second
instances_apart-requires-clause-second c =
    let l = within (goal.at.instances_apart-requires-clause-second c).After-index in
    let s = subst IsShallowPremise c.in-Apart.is (shallow_premise_at _ c.requires.shallow.1 c.loop-k.k _ l c.index.ensures) in
    s.1

pub instances_apart-requires-clause-env : goal.instances_apart-requires-clause-env
instances_apart-requires-clause-env c =
    let v = stayed (goal.at.instances_apart-requires-clause-env c).At-loop-k in
    v.env_within

pub instances_apart-requires-clause-pairs : goal.instances_apart-requires-clause-pairs
instances_apart-requires-clause-pairs c =
    pairs_more_terms _ _ (extends-length _ _ c.loop-k.invariant.grows.trees) _ c.requires.pairs

pub returns-then-not-branch : goal.returns-then-not-branch
returns-then-not-branch c =
    let l = within (goal.at.returns-then-not-branch c).After-index in
    apart_fails _ _ _ c.args.store.now c.loop-k.store (record { arena = c.instances_apart.new.arena; binds = c.loop-k.store.binds; kids = c.loop-k.store.kids; frames = c.loop-k.store.frames; until = c.loop-k.store.until }) c.args.from.rule _ c.args.from.levels c.args.from.env c.args.from.kids c.args.from.before _ c.requires.store c.requires.pairs c.requires.env c.requires.kids c.requires.frames c.in_ok-instances_apart-in-Apart.field-0 _ _ _ (passed_as _ _ _ _ c.loop-k.store _ _ _ _ _ _ _ _ _ (drop_premise _ c.loop-k.k _ _ l c.index.ensures c.in-Apart.is) c.loop-k.invariant) c.in_ok-instances_apart-in-Apart.ensures c.if-not-branch.true refl refl refl refl

pub loop-k-preserved : goal.loop-k-preserved
loop-k-preserved c =
    let l = within (goal.at.loop-k-preserved c).After-index in
    apart_holds _ _ _ c.args.store.now c.loop-k.store (record { arena = c.instances_apart.new.arena; binds = c.loop-k.store.binds; kids = c.loop-k.store.kids; frames = c.loop-k.store.frames; until = c.loop-k.store.until }) c.args.from.rule _ c.args.from.levels c.args.from.env c.args.from.kids c.args.from.before _ c.requires.store c.requires.pairs c.requires.env c.requires.kids c.requires.frames c.in_ok-instances_apart-in-Apart.field-0 _ _ _ (passed_as _ _ _ _ c.loop-k.store _ _ _ _ _ _ _ _ _ (drop_premise _ c.loop-k.k _ _ l c.index.ensures c.in-Apart.is) c.loop-k.invariant) c.in_ok-instances_apart-in-Apart.ensures c.if-not-branch.false refl refl refl refl

pub asked-requires-clause-shallow : goal.asked-requires-clause-shallow
asked-requires-clause-shallow c =
    let l = within (goal.at.asked-requires-clause-shallow c).After-index in
    let s = subst IsShallowPremise c.in-Holds.is (shallow_premise_at _ c.requires.shallow.1 c.loop-k.k _ l c.index.ensures) in
    s

pub asked-requires-clause-waits : goal.asked-requires-clause-waits
asked-requires-clause-waits c =
    let l = within (goal.at.asked-requires-clause-waits c).After-index in
    record { rule = rule_of c.args.rule.now; found = c.requires.found; premise = premise_get _ c.loop-k.k _ _ l c.index.ensures c.in-Holds.is }

pub asked-requires-clause-env : goal.asked-requires-clause-env
asked-requires-clause-env c =
    let v = stayed (goal.at.asked-requires-clause-env c).At-loop-k in
    v.env_within

pub asked-requires-clause-kids : goal.asked-requires-clause-kids
asked-requires-clause-kids c =
    let v = stayed (goal.at.asked-requires-clause-kids c).At-loop-k in
    v.kids_within

pub asked-requires-clause-before : goal.asked-requires-clause-before
asked-requires-clause-before c =
    let v = stayed (goal.at.asked-requires-clause-before c).At-loop-k in
    v.frames_within

pub asked-requires-clause-until : goal.asked-requires-clause-until
asked-requires-clause-until c =
    let u = c.loop-k.invariant.grows.until in
    let o = c.requires.until in
    omega arith

pub returns-in-Holds : goal.returns-in-Holds
returns-in-Holds c =
    let l = within (goal.at.returns-in-Holds c).After-index in
    ok_weaker _ _ (λ step h. asked_is _ _ _ c.args.store.now c.loop-k.store c.asked.new.store c.args.from.rule _ c.args.from.levels c.args.from.env c.args.from.kids c.args.from.before _ c.requires.store c.requires.pairs c.requires.env c.requires.kids c.requires.frames step _ c.loop-k.k (passed_as _ _ _ _ c.loop-k.store _ _ _ _ _ _ _ _ _ (drop_premise _ c.loop-k.k _ _ l c.index.ensures c.in-Holds.is) c.loop-k.invariant) c.requires.found h) c.asked.result c.asked.ensures

pub concluded-requires-clause-env : goal.concluded-requires-clause-env
concluded-requires-clause-env c =
    let v = stayed (goal.at.concluded-requires-clause-env c).At-loop-k in
    v.env_within

pub concluded-requires-clause-kids : goal.concluded-requires-clause-kids
concluded-requires-clause-kids c =
    let v = stayed (goal.at.concluded-requires-clause-kids c).At-loop-k in
    v.kids_within

pub returns : goal.returns
returns c =
    ok_weaker _ _ (λ step h. concluded_is _ _ _ c.args.store.now c.loop-k.store c.concluded.new.store c.args.from.rule _ c.args.from.levels c.args.from.env c.args.from.kids c.args.from.before _ c.requires.store c.requires.pairs c.requires.env c.requires.kids c.requires.frames step (passed_as _ _ _ _ c.loop-k.store _ _ _ _ _ _ _ _ _ (drop_premises_end c.args.rule.now.premises.items c.loop-k.k (let a = c.loop-k-test.false in let b = c.len-k-end.ensures in let d = c.args.rule.now.premises.ok in omega arith)) c.loop-k.invariant) h) c.concluded.result c.concluded.ensures
