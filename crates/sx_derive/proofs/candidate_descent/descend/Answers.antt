use Rattle.std.proofs.Common.{suc, reverse, subst, ◌∙◌, Some, None}
use Rattle.sx_arena.specs.Views.{rules_of, set_modes}
use Rattle.sx_arena.proofs.Patterns.{ok_weaker}
use Rattle.sx_derive.specs.Descents.{spot_goal, RulesLead, IsFirstFact}
use Rattle.sx_derive.specs.Stuck.{IsStuck}
use Rattle.sx_derive.specs.Ways.{subject_modes}
use Rattle.sx_derive.proofs.Led.{descent_weaker, quiet_rules, stuck_at_fact, stuck_at_rules}
use Rattle.sx_derive.proofs.Noted.{fails_rules}
use Rattle.sx_derive.proofs.candidate_descent.descend.Goals as goal

pub descend_rules-requires-clause-quiet : goal.descend_rules-requires-clause-quiet
descend_rules-requires-clause-quiet c =
    let m = set_modes c.args.given.now.rules.now in
    let rs = rules_of c.args.given.now.rules.now in
    let s = c.args.store.now in
    let x = c.requires.quiet.0 in (
      x,
      c.requires.quiet.1,
      quiet_rules m rs x c.args.bounds.budget c.args.bounds.levels (spot_goal s c.args.spot) c.requires.quiet.2,
      fails_rules m rs x c.args.bounds.levels (spot_goal s c.args.spot) (reverse c.args.notes.now.items) c.requires.quiet.3,
    )

pub returns-in_ok-got-in-Some-clause-descent : goal.returns-in_ok-got-in-Some-clause-descent
returns-in_ok-got-in-Some-clause-descent c =
    let m = set_modes c.args.given.now.rules.now in
    let su = subject_modes c.args.given.now.rules.now in
    let rs = rules_of c.args.given.now.rules.now in
    let s = c.args.store.now in
    let f = subst (λ is. IsFirstFact c.args.spot.form is c.args.given.now.facts.now (Some c.in-Some.fact.now)) c.deref.ensures.value c.in-Some.ensures in
    λ hyps are. stuck_at_fact m su rs hyps c.args.bounds.levels s c.args.given.now.facts.now c.args.given.now.pairs.now c.args.spot c.requires.store are c.requires.terms c.args.bounds.budget c.args.notes.now.items c.in-Some.fact.now c.in_ok-got-in-Some.got f (c.in_ok-got-in-Some.ensures ∙ c.deref-in-Some.ensures.value)

pub returns-in-None-clause-descent : goal.returns-in-None-clause-descent
returns-in-None-clause-descent c =
    let m = set_modes c.args.given.now.rules.now in
    let su = subject_modes c.args.given.now.rules.now in
    let rs = rules_of c.args.given.now.rules.now in
    let s = c.args.store.now in
    let f = subst (λ is. IsFirstFact c.args.spot.form is c.args.given.now.facts.now None) c.deref.ensures.value c.in-None.ensures in
    ok_weaker _ _ (λ d h hyps are. descent_weaker m su rs hyps c.args.bounds.budget c.args.bounds.levels c.descend_rules.new.store c.descend_rules.new.notes.items
    (RulesLead m su rs hyps c.args.bounds.budget c.args.bounds.levels (spot_goal s c.args.spot) c.args.spot.path.items) (IsStuck m su rs hyps (suc c.args.bounds.levels) (spot_goal s c.args.spot) c.args.spot.path.items)
    (λ blame r. stuck_at_rules m su rs hyps c.args.bounds.levels s c.args.given.now.facts.now c.args.given.now.pairs.now c.args.spot c.requires.store are c.requires.terms f blame r) d (h hyps are)) c.descend_rules.result c.descend_rules.ensures.descent
