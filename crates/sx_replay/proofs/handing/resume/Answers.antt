use Rattle.std.proofs.Common.{◌≡◌, ◌<◌, slice_get, Some, List, map, sym, ◌∙◌, subst, length, arith}
use Rattle.sx_arena.specs.Places.{selected}
use Rattle.std.proofs.lemmas.Option.{slice_get_within}
use Rattle.std.proofs.lemmas.List.{length-map}
use Rattle.sx_term.specs.Term.{tree}
use Rattle.sx_rules.specs.Modes.{outputs}
use Rattle.sx_rules.specs.Rules.{holds}
use Rattle.sx_rules.specs.declared.rule.Premise.TheVariants.{Apart}
use Rattle.sx_rules.specs.Deep.{AreShallow}
use Rattle.sx_arena.specs.Matching.{match_all}
use Rattle.sx_arena.specs.Arena.{tree_at}
use Rattle.sx_arena.specs.Binds.{env_at}
use Rattle.sx_arena.specs.Views.{rules_of, set_modes, rule_of, premise_of, judgement_of}
use Rattle.sx_arena.proofs.Patterns.{ok_weaker}
use Rattle.sx_replay.specs.Reader.{reader_trees, reader_envs}
use Rattle.sx_replay.proofs.Readers.{shallow_rule}
use Rattle.sx_replay.proofs.Premised.{IsShallowPremise, shallow_premise_at, premise_get}
use Rattle.sx_replay.proofs.Handed.{waits_at, holds_at, bound_grows, resumed_none, resumed_more}
use Rattle.sx_replay.proofs.handing.resume.Goals as goal
use Rattle.sx_replay.proofs.handing.resume.Goals.{In-Holds}

-- the premise that waits is the one that is read
premise_that_waits : (c : In-Holds) → (c.args.waiting.premise < length c.rule_at-rule.result.now.premises.items) × (slice_get (map premise_of c.rule_at-rule.result.now.premises.items) c.args.waiting.premise ≡ Some (holds (judgement_of c.in-Holds.judgement)))
premise_that_waits c =
    let x = waits_at _ _ _ c.requires.waits _ c.rule_at-rule.ensures in
    holds_at c.rule_at-rule.result.now.premises.items c.args.waiting.premise _ _ _ x.1 c.index.ensures c.in-Holds.is

pub fit_places-requires-clause-shallow : goal.fit_places-requires-clause-shallow
fit_places-requires-clause-shallow c =
    let l = premise_that_waits (goal.at.fit_places-requires-clause-shallow c).In-Holds in
    let r = shallow_rule _ _ _ c.requires.shallow c.rule_at-rule.ensures in
    subst (λ (xs : List _). AreShallow (map tree xs)) (sym c.new-side.ensures.places) (subst IsShallowPremise c.in-Holds.is (shallow_premise_at _ r.1 c.args.waiting.premise _ l.0 c.index.ensures))

pub overflow_add-waiting : goal.overflow_add-waiting
overflow_add-waiting c =
    let l = (premise_that_waits (goal.at.overflow_add-waiting c).In-Holds).0 in
    let k = c.rule_at-rule.result.now.premises.ok in
    omega arith

pub premises-requires-clause-shallow : goal.premises-requires-clause-shallow
premises-requires-clause-shallow c = shallow_rule _ _ _ c.requires.shallow c.rule_at-rule.ensures

pub premises-requires-clause-reader : goal.premises-requires-clause-reader
premises-requires-clause-reader c =
    let l = premise_that_waits (goal.at.premises-requires-clause-reader c).In-Holds in
    (bound_grows (set_modes c.args.given.now.rules.now) (rules_of c.args.given.now.rules.now) c.args.given.now.pairs.now c.args.reader.now c.args.waiting (rule_of c.rule_at-rule.result.now) (judgement_of c.in-Holds.judgement) c.args.outputs.now
    c.requires.reader c.rule_at-rule.ensures l.1 c.fit_places.new.binds c.in_ok-fit-in-Holds.ensures.grows).reader

pub returns-in-None : goal.returns-in-None
returns-in-None c =
    let l = premise_that_waits (goal.at.returns-in-None c).In-Holds in
    let s = c.args.reader.now in
    resumed_none (set_modes c.args.given.now.rules.now) (rules_of c.args.given.now.rules.now) c.args.given.now.pairs.now s c.args.waiting (rule_of c.rule_at-rule.result.now) (judgement_of c.in-Holds.judgement) c.args.outputs.now
    c.requires.reader c.rule_at-rule.ensures l.1 c.fit_places.new.binds c.in_ok-fit-in-Holds.ensures.grows
    ((λ i. match_all (selected (sym c.new-side.ensures.outputs i) (sym c.new-side.ensures.roles i) (map tree (sym c.new-side.ensures.places i))) (map (tree_at (reader_trees s)) c.args.outputs.now) (env_at (reader_envs s) c.args.waiting.env))
    ∙ (rw c.in-None.is at c.in_ok-fit-in-Holds.ensures.fit))

pub returns-in-Some : goal.returns-in-Some
returns-in-Some c =
    let l = premise_that_waits (goal.at.returns-in-Some c).In-Holds in
    let s = c.args.reader.now in
    let f = rw c.in-Some.is at c.in_ok-fit-in-Holds.ensures.fit in
    ok_weaker _ _ (λ step p. resumed_more (set_modes c.args.given.now.rules.now) (rules_of c.args.given.now.rules.now) c.args.given.now.pairs.now s c.args.waiting (rule_of c.rule_at-rule.result.now) (judgement_of c.in-Holds.judgement) c.args.outputs.now
    c.requires.reader c.rule_at-rule.ensures l.1 c.fit_places.new.binds c.in_ok-fit-in-Holds.ensures.grows c.premises.new.reader c.in-Some.env step
    ((λ i. match_all (selected (sym c.new-side.ensures.outputs i) (sym c.new-side.ensures.roles i) (map tree (sym c.new-side.ensures.places i))) (map (tree_at (reader_trees s)) c.args.outputs.now) (env_at (reader_envs s) c.args.waiting.env)) ∙ f.1) p)
    c.premises.result c.premises.ensures

pub rule_at-rule-requires : goal.rule_at-rule-requires
rule_at-rule-requires c = slice_get_within (rules_of c.args.given.now.rules.now) c.args.waiting.rule _ c.requires.waits.found

pub index-requires : goal.index-requires
index-requires c =
    let x = waits_at _ _ _ c.requires.waits _ c.rule_at-rule.ensures in
    let l = slice_get_within (map premise_of c.rule_at-rule.result.now.premises.items) c.args.waiting.premise _ x.1 in
    let m = length-map c.rule_at-rule.result.now.premises.items premise_of in
    omega arith

pub unreachable-requires : goal.unreachable-requires
unreachable-requires c =
    let x = waits_at _ _ _ c.requires.waits _ c.rule_at-rule.ensures in
    let ps = c.rule_at-rule.result.now.premises.items in
    let l = slice_get_within (map premise_of ps) c.args.waiting.premise _ x.1 in
    let m = length-map ps premise_of in
    let same : Some (holds x.0) ≡ Some (premise_of (Apart c.in-Apart.field-0 c.in-Apart.field-1)) = sym x.1 ∙ premise_get ps c.args.waiting.premise _ _ (omega arith) c.index.ensures c.in-Apart.is in
    cc

pub premises-requires-clause-env : goal.premises-requires-clause-env
premises-requires-clause-env c = (rw c.in-Some.is at c.in_ok-fit-in-Holds.ensures.fit).0
