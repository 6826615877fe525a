use Rattle.sx_derive.proofs.Stored.{grows_same, grows_then}
use Rattle.std.proofs.Common.{◌≡◌, Some, subst, arith}
use Rattle.std.specs.Prelude.{slice_get}
use Rattle.std.proofs.lemmas.List.{length-map}
use Rattle.sx_rules.specs.Views.{named}
use Rattle.sx_arena.specs.Binds.{IsChainFit}
use Rattle.sx_arena.specs.Views.{rules_of, set_modes, rule_of}
use Rattle.sx_arena.proofs.Ruled.{rule_found, rule_missing}
use Rattle.sx_derive.specs.Candidates.{goal_in}
use Rattle.sx_derive.specs.Store.{store_trees}
use Rattle.sx_derive.specs.Stuck.{rule_match}
use Rattle.sx_derive.proofs.Led.{leading_below, rule_fits, rule_differs, rules_end, rule_within, not_within}
use Rattle.sx_derive.proofs.Resumed.{shallow_at}
use Rattle.sx_derive.proofs.candidate_descent.first_rule.Goals as goal
use Rattle.sx_derive.proofs.candidate_descent.first_rule.Goals.{In-Some}

-- the rule that is looked at
found : (c : In-Some) → slice_get (rules_of c.args.rules.now) c.loop-rule.number ≡ Some (rule_of c.in-Some.rule.now)
found c = rule_found c.args.rules.now.rules.items c.loop-rule.number c.in-Some.rule.now c.in-Some.ensures

pub rule_fit-requires-clause-shallow : goal.rule_fit-requires-clause-shallow
rule_fit-requires-clause-shallow c =
    shallow_at _ _ _ c.facts.ensures.shallow (found (goal.at.rule_fit-requires-clause-shallow c).In-Some)

pub rule_fit-requires-clause-terms : goal.rule_fit-requires-clause-terms
rule_fit-requires-clause-terms c =
    let m = set_modes c.args.rules.now in
    let rs = rules_of c.args.rules.now in
    let s = c.args.store.now in
    leading_below m rs c.args.form c.args.terms.now s c.requires.terms c.loop-rule.store c.loop-rule.store c.loop-rule.number c.loop-rule.invariant

pub returns-in-Some-2-clause-first : goal.returns-in-Some-2-clause-first
returns-in-Some-2-clause-first c =
    let m = set_modes c.args.rules.now in
    let rs = rules_of c.args.rules.now in
    let s = c.args.store.now in
    let e = found (goal.at.returns-in-Some-2-clause-first c).In-Some in
    rule_fits m rs c.args.form c.args.terms.now s c.requires.terms c.loop-rule.store c.rule_fit.new.store c.loop-rule.number c.loop-rule.invariant _ e c.in_ok-env.ensures.grows c.in-Some-2.env (subst (λ x. IsChainFit (store_trees c.rule_fit.new.store) c.rule_fit.new.store.binds (rule_match m (rule_of c.in-Some.rule.now) (goal_in c.loop-rule.store c.args.form c.args.terms.now)) x) c.in-Some-2.is c.in_ok-env.ensures.fit)

pub overflow_add-number : goal.overflow_add-number
overflow_add-number c =
    let w = rule_within (rules_of c.args.rules.now) c.loop-rule.number _ (found (goal.at.overflow_add-number c).In-Some) in
    let n = length-map c.args.rules.now.rules.items rule_of in
    let k = length-map c.args.rules.now.rules.items named in
    omega arith

pub loop-rule-smaller : goal.loop-rule-smaller
loop-rule-smaller c =
    let w = rule_within (rules_of c.args.rules.now) c.loop-rule.number _ (found (goal.at.loop-rule-smaller c).In-Some) in
    omega arith

pub loop-rule-preserved : goal.loop-rule-preserved
loop-rule-preserved c =
    let m = set_modes c.args.rules.now in
    let rs = rules_of c.args.rules.now in
    let s = c.args.store.now in
    let e = found (goal.at.loop-rule-preserved c).In-Some in
    rule_differs m rs c.args.form c.args.terms.now s c.requires.terms c.loop-rule.store c.rule_fit.new.store c.loop-rule.number c.loop-rule.invariant _ e c.in_ok-env.ensures.grows (subst (λ x. IsChainFit (store_trees c.rule_fit.new.store) c.rule_fit.new.store.binds (rule_match m (rule_of c.in-Some.rule.now) (goal_in c.loop-rule.store c.args.form c.args.terms.now)) x) c.in-None.is c.in_ok-env.ensures.fit)

pub returns-clause-first : goal.returns-clause-first
returns-clause-first c =
    let m = set_modes c.args.rules.now in
    let rs = rules_of c.args.rules.now in
    let s = c.args.store.now in
    rules_end m rs c.args.form c.args.terms.now s c.requires.terms c.loop-rule.store c.loop-rule.store c.loop-rule.number c.loop-rule.invariant (not_within _ _ (rule_missing c.args.rules.now.rules.items c.loop-rule.number c.in_default.ensures))

pub loop-rule-init : goal.loop-rule-init
loop-rule-init c = record {
  grows = grows_same (set_modes c.args.rules.now) (rules_of c.args.rules.now) c.args.store.now c.requires.store;
  leads = λ s x h. h;
}

pub rule_fit-requires-clause-store : goal.rule_fit-requires-clause-store
rule_fit-requires-clause-store c = c.loop-rule.invariant.grows.store

pub returns-in-Some-2-clause-grows : goal.returns-in-Some-2-clause-grows
returns-in-Some-2-clause-grows c =
    grows_then (set_modes c.args.rules.now) (rules_of c.args.rules.now) c.args.store.now c.loop-rule.store c.rule_fit.new.store c.loop-rule.invariant.grows c.in_ok-env.ensures.grows

pub returns-clause-grows : goal.returns-clause-grows
returns-clause-grows c = c.loop-rule.invariant.grows
