use Rattle.sx_derive.proofs.Stored.{grows_then}
use Rattle.std.proofs.Common.{length, reverse, Some, subst, sym}
use Rattle.sx_arena.specs.Views.{rules_of, set_modes, rule_of}
use Rattle.sx_arena.proofs.Patterns.{ok_weaker}
use Rattle.sx_arena.specs.Arena.{AreBelow}
use Rattle.sx_derive.specs.Store.{store_trees}
use Rattle.sx_derive.specs.Candidates.{goal_in}
use Rattle.sx_derive.specs.Descents.{spot_goal, IsFirstRule}
use Rattle.sx_derive.specs.Ways.{subject_modes}
use Rattle.sx_derive.proofs.Descended.{hyps_stay, spot_stays}
use Rattle.sx_derive.proofs.Led.{sought_none, sought_env, sought_within, sought_quiet, sought_leads}
use Rattle.sx_derive.proofs.Resumed.{shallow_at}
use Rattle.sx_derive.proofs.candidate_descent.descend_rules.Goals as goal
use Rattle.sx_derive.proofs.candidate_descent.descend_rules.Goals.{In-Some}

-- the rule that was found is the first for the goal
found : (c : In-Some) → IsFirstRule (set_modes c.args.given.now.rules.now) c.first_rule.new.store (spot_goal c.args.store.now c.args.spot) 0 (rules_of c.args.given.now.rules.now) (Some (c.in-Some.number, c.in-Some.env))
found c =
    subst (λ o. IsFirstRule (set_modes c.args.given.now.rules.now) c.first_rule.new.store (spot_goal c.args.store.now c.args.spot) 0 (rules_of c.args.given.now.rules.now) o) c.in-Some.is
    (subst (λ is. IsFirstRule (set_modes c.args.given.now.rules.now) c.first_rule.new.store (goal_in c.args.store.now c.args.spot.form is) 0 (rules_of c.args.given.now.rules.now) c.in_ok-first_rule.field-0) c.deref.ensures.value c.in_ok-first_rule.ensures.first)

pub rule_at-rule-requires : goal.rule_at-rule-requires
rule_at-rule-requires c =
    sought_within (set_modes c.args.given.now.rules.now) (subject_modes c.args.given.now.rules.now) (rules_of c.args.given.now.rules.now) c.requires.quiet.0 c.args.bounds.budget c.args.bounds.levels c.args.store.now c.first_rule.new.store c.args.given.now.facts.now c.args.given.now.pairs.now c.args.spot c.requires.quiet.1 c.requires.terms c.in_ok-first_rule.ensures.grows c.in-Some.number c.in-Some.env (found (goal.at.rule_at-rule-requires c).In-Some)

pub descend_premises-requires-clause-shallow : goal.descend_premises-requires-clause-shallow
descend_premises-requires-clause-shallow c =
    shallow_at (rules_of c.args.given.now.rules.now) c.in-Some.number _ c.facts.ensures.shallow c.rule_at-rule.ensures

pub descend_premises-requires-clause-env : goal.descend_premises-requires-clause-env
descend_premises-requires-clause-env c =
    sought_env (set_modes c.args.given.now.rules.now) (subject_modes c.args.given.now.rules.now) (rules_of c.args.given.now.rules.now) c.requires.quiet.0 c.args.bounds.budget c.args.bounds.levels c.args.store.now c.first_rule.new.store c.args.given.now.facts.now c.args.given.now.pairs.now c.args.spot c.requires.quiet.1 c.requires.terms c.in_ok-first_rule.ensures.grows c.in-Some.number c.in-Some.env (found (goal.at.descend_premises-requires-clause-env c).In-Some)

pub descend_premises-requires-clause-terms : goal.descend_premises-requires-clause-terms
descend_premises-requires-clause-terms c =
    (spot_stays (set_modes c.args.given.now.rules.now) (rules_of c.args.given.now.rules.now) c.args.store.now c.first_rule.new.store c.args.spot c.in_ok-first_rule.ensures.grows c.requires.terms).0

pub descend_premises-requires-clause-quiet : goal.descend_premises-requires-clause-quiet
descend_premises-requires-clause-quiet c =
    sought_quiet (set_modes c.args.given.now.rules.now) (subject_modes c.args.given.now.rules.now) (rules_of c.args.given.now.rules.now) c.requires.quiet.0 c.args.bounds.budget c.args.bounds.levels c.args.store.now c.first_rule.new.store c.args.given.now.facts.now c.args.given.now.pairs.now c.args.spot c.requires.quiet.1 c.requires.terms c.in_ok-first_rule.ensures.grows c.in-Some.number c.in-Some.env (found (goal.at.descend_premises-requires-clause-quiet c).In-Some) (rule_of c.rule_at-rule.result.now) c.rule_at-rule.ensures (reverse c.args.notes.now.items) c.requires.quiet.2 c.requires.quiet.3

pub returns-in-None-clause-descent : goal.returns-in-None-clause-descent
returns-in-None-clause-descent c =
    let f0 = subst (λ is. IsFirstRule (set_modes c.args.given.now.rules.now) c.first_rule.new.store (goal_in c.args.store.now c.args.spot.form is) 0 (rules_of c.args.given.now.rules.now) c.in_ok-first_rule.field-0) c.deref.ensures.value c.in_ok-first_rule.ensures.first in
    let f = subst (λ o. IsFirstRule (set_modes c.args.given.now.rules.now) c.first_rule.new.store (spot_goal c.args.store.now c.args.spot) 0 (rules_of c.args.given.now.rules.now) o) c.in-None.is f0 in
    λ hyps are. sought_none (set_modes c.args.given.now.rules.now) (subject_modes c.args.given.now.rules.now) (rules_of c.args.given.now.rules.now) hyps c.args.bounds.budget c.args.bounds.levels c.args.store.now c.first_rule.new.store c.args.given.now.facts.now c.args.given.now.pairs.now c.args.spot are c.requires.terms c.in_ok-first_rule.ensures.grows c.args.notes.now.items f

pub returns-in-Some-clause-descent : goal.returns-in-Some-clause-descent
returns-in-Some-clause-descent c =
    ok_weaker _ _ (λ d h hyps are. sought_leads (set_modes c.args.given.now.rules.now) (subject_modes c.args.given.now.rules.now) (rules_of c.args.given.now.rules.now) hyps c.args.bounds.budget c.args.bounds.levels c.args.store.now c.first_rule.new.store c.args.given.now.facts.now c.args.given.now.pairs.now c.args.spot are c.requires.terms c.in_ok-first_rule.ensures.grows c.in-Some.number c.in-Some.env (found (goal.at.returns-in-Some-clause-descent c).In-Some) (rule_of c.rule_at-rule.result.now) c.rule_at-rule.ensures c.descend_premises.new.store c.descend_premises.new.notes.items d (h hyps (hyps_stay (set_modes c.args.given.now.rules.now) (rules_of c.args.given.now.rules.now) c.args.store.now c.first_rule.new.store c.args.given.now.facts.now c.args.given.now.pairs.now hyps c.in_ok-first_rule.ensures.grows are))) c.descend_premises.result c.descend_premises.ensures.descent

pub first_rule-requires-clause-terms : goal.first_rule-requires-clause-terms
first_rule-requires-clause-terms c = subst (AreBelow (length (store_trees c.args.store.now))) (sym c.deref.ensures.value) c.requires.terms

pub descend_premises-requires-clause-few : goal.descend_premises-requires-clause-few
descend_premises-requires-clause-few c = c.requires.few

pub descend_premises-requires-clause-store : goal.descend_premises-requires-clause-store
descend_premises-requires-clause-store c = c.in_ok-first_rule.ensures.grows.store

pub returns-in-None-clause-grows : goal.returns-in-None-clause-grows
returns-in-None-clause-grows c = c.in_ok-first_rule.ensures.grows

pub returns-in-Some-clause-grows : goal.returns-in-Some-clause-grows
returns-in-Some-clause-grows c =
    ok_weaker _ _ (λ d h. grows_then (set_modes c.args.given.now.rules.now) (rules_of c.args.given.now.rules.now) c.args.store.now c.first_rule.new.store c.descend_premises.new.store c.in_ok-first_rule.ensures.grows h) c.descend_premises.result c.descend_premises.ensures.grows
