use Rattle.std.proofs.Common.{refl, subst, length, ◌<◌, arith}
use Rattle.sx_arena.specs.Views.{rule_of, rules_of, set_modes, judgement_of}
use Rattle.sx_arena.proofs.Growing.{extends-length}
use Rattle.sx_arena.proofs.Parted.{pairs_more_terms}
use Rattle.sx_replay.proofs.Readers.{env_later}
use Rattle.sx_replay.proofs.Premised.{IsShallowPremise, shallow_premise_at, drop_premise, drop_premises_end, premise_get, reached_as, apart_fails, apart_holds, concluded_is, asked_is}
use Rattle.sx_replay.proofs.premise_loop.premises.Goals as goal
use Rattle.sx_replay.proofs.premise_loop.premises.Goals.{After-index}

-- the premise is one of the rule's
one_is_left : (c : After-index) → c.loop-k.k < length c.args.rule.now.premises.items
one_is_left c = let a = c.loop-k-test.true in let b = c.len-k-end.ensures in let d = c.args.rule.now.premises.ok in omega arith

pub instances_apart-requires-clause-first : goal.instances_apart-requires-clause-first
instances_apart-requires-clause-first c =
    let l = one_is_left (goal.at.instances_apart-requires-clause-first c).After-index in
    let s = subst IsShallowPremise c.in-Apart.is (shallow_premise_at _ c.requires.shallow.1 c.loop-k.k _ l c.index.ensures) in
    s.0

pub instances_apart-requires-clause-second : goal.instances_apart-requires-clause-second
instances_apart-requires-clause-second c =
    let l = one_is_left (goal.at.instances_apart-requires-clause-second c).After-index in
    let s = subst IsShallowPremise c.in-Apart.is (shallow_premise_at _ c.requires.shallow.1 c.loop-k.k _ l c.index.ensures) in
    s.1

pub instances_apart-requires-clause-env : goal.instances_apart-requires-clause-env
instances_apart-requires-clause-env c = (env_later (rules_of c.args.given.now.rules.now) c.args.reader.now c.loop-k.reader c.loop-k.invariant.grows c.args.env c.requires.env).0

pub instances_apart-requires-clause-pairs : goal.instances_apart-requires-clause-pairs
instances_apart-requires-clause-pairs c = pairs_more_terms _ _ (extends-length _ _ c.loop-k.invariant.grows.trees) _ c.requires.pairs

pub returns-then-not-branch : goal.returns-then-not-branch
returns-then-not-branch c =
    let l = one_is_left (goal.at.returns-then-not-branch c).After-index in
    let mid = c.loop-k.reader in
    apart_fails (set_modes c.args.given.now.rules.now) (rules_of c.args.given.now.rules.now) c.args.given.now.pairs.now c.args.reader.now mid (record { arena = c.instances_apart.new.arena; binds = mid.binds; waiting = mid.waiting; noted = mid.noted; base = mid.base }) (rule_of c.args.rule.now) c.args.env _
    c.requires.pairs c.requires.env c.in_ok-instances_apart-in-Apart.field-0 _ _ _
    (reached_as _ _ _ _ _ _ mid _ _ _ (drop_premise _ c.loop-k.k _ _ l c.index.ensures c.in-Apart.is) c.loop-k.invariant) c.in_ok-instances_apart-in-Apart.ensures c.if-not-branch.true refl refl refl

pub make-requires-clause-shallow : goal.make-requires-clause-shallow
make-requires-clause-shallow c =
    let l = one_is_left (goal.at.make-requires-clause-shallow c).After-index in
    subst IsShallowPremise c.in-Holds.is (shallow_premise_at _ c.requires.shallow.1 c.loop-k.k _ l c.index.ensures)

pub make-requires-clause-env : goal.make-requires-clause-env
make-requires-clause-env c = (env_later (rules_of c.args.given.now.rules.now) c.args.reader.now c.loop-k.reader c.loop-k.invariant.grows c.args.env c.requires.env).0

pub returns-in-Holds : goal.returns-in-Holds
returns-in-Holds c =
    let l = one_is_left (goal.at.returns-in-Holds c).After-index in
    let mid = c.loop-k.reader in
    let made = c.make.new.reader in
    asked_is (set_modes c.args.given.now.rules.now) (rules_of c.args.given.now.rules.now) c.args.given.now.pairs.now c.args.reader.now mid (record { arena = made.arena; binds = made.binds; waiting = c.push.new.self; noted = made.noted; base = made.base }) (rule_of c.args.rule.now) c.args.env _
    c.requires.pairs c.requires.env c.requires.reader made (judgement_of c.in-Holds.judgement) c.loop-k.k c.args.number c.mark-mark.result c.len-held.result c.in_ok-terms-in-Holds.terms c.mark-mark.ensures c.len-held.ensures
    (reached_as _ _ _ _ _ _ mid _ _ _ (drop_premise _ c.loop-k.k _ _ l c.index.ensures c.in-Holds.is) c.loop-k.invariant)
    c.requires.found (premise_get _ c.loop-k.k _ _ l c.index.ensures c.in-Holds.is) c.in_ok-terms-in-Holds.ensures refl refl c.in_ok-push-in-Holds.ensures.items refl refl

pub loop-k-preserved : goal.loop-k-preserved
loop-k-preserved c =
    let l = one_is_left (goal.at.loop-k-preserved c).After-index in
    let mid = c.loop-k.reader in
    apart_holds (set_modes c.args.given.now.rules.now) (rules_of c.args.given.now.rules.now) c.args.given.now.pairs.now c.args.reader.now mid (record { arena = c.instances_apart.new.arena; binds = mid.binds; waiting = mid.waiting; noted = mid.noted; base = mid.base }) (rule_of c.args.rule.now) c.args.env _
    c.requires.pairs c.requires.env c.in_ok-instances_apart-in-Apart.field-0 _ _ _
    (reached_as _ _ _ _ _ _ mid _ _ _ (drop_premise _ c.loop-k.k _ _ l c.index.ensures c.in-Apart.is) c.loop-k.invariant) c.in_ok-instances_apart-in-Apart.ensures c.if-not-branch.false refl refl refl refl

pub make-requires-2-clause-env : goal.make-requires-2-clause-env
make-requires-2-clause-env c = (env_later (rules_of c.args.given.now.rules.now) c.args.reader.now c.loop-k.reader c.loop-k.invariant.grows c.args.env c.requires.env).0

pub returns : goal.returns
returns c =
    concluded_is (set_modes c.args.given.now.rules.now) (rules_of c.args.given.now.rules.now) c.args.given.now.pairs.now c.args.reader.now c.loop-k.reader c.make-2.new.reader (rule_of c.args.rule.now) c.args.env _
    c.requires.pairs c.requires.env c.in_ok-make.field-0
    (reached_as _ _ _ _ _ _ c.loop-k.reader _ _ _ (drop_premises_end c.args.rule.now.premises.items c.loop-k.k (let a = c.loop-k-test.false in let b = c.len-k-end.ensures in let d = c.args.rule.now.premises.ok in omega arith)) c.loop-k.invariant)
    c.in_ok-make.ensures
