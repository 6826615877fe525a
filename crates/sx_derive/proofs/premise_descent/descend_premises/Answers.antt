use Rattle.std.proofs.Common.{List, map, subst, sym, reverse}
use Rattle.sx_rules.specs.Deep.{PremisesAreShallow}
use Rattle.sx_rules.specs.Rules.{holds}
use Rattle.sx_arena.specs.Binds.{env_at}
use Rattle.sx_arena.specs.Views.{rule_of, premise_of, rules_of, set_modes, judgement_of}
use Rattle.sx_rules.specs.declared.rule.Premise.{Premise as PremiseOf}
use Rattle.sx_derive.specs.Binding.{IsBoundPremise}
use Rattle.sx_derive.specs.Descents.{spot_goal, PremisesLead, IsDescent}
use Rattle.sx_derive.specs.Givens.{FailsAtNoted}
use Rattle.sx_derive.specs.Store.{store_envs}
use Rattle.sx_derive.specs.Ways.{subject_modes}
use Rattle.sx_derive.specs.declared.descent.Descent.TheVariants.{Below}
use Rattle.sx_derive.proofs.Bound.{premise_shallow}
use Rattle.sx_derive.proofs.Descended.{for_hyps, bound_grown, bound_below}
use Rattle.sx_derive.proofs.Noted.{note_taken}
use Rattle.sx_derive.proofs.premise_descent.descend_premises.Goals as goal
use Rattle.sx_derive.proofs.premise_descent.descend_premises.Goals.{In-Some, After-pop-noted}

-- the premise that is found
found : (c : In-Some) → IsBoundPremise (set_modes c.args.given.now.rules.now) (rule_of c.args.candidate.now.rule.now).premises (env_at (store_envs c.args.store.now) c.args.candidate.now.env) c.pop-noted.result (judgement_of c.in-Some.judgement.now)
found c =
    subst (λ (ps : List PremiseOf). IsBoundPremise (set_modes c.args.given.now.rules.now) (map premise_of ps) (env_at (store_envs c.args.store.now) c.args.candidate.now.env) c.pop-noted.result (judgement_of c.in-Some.judgement.now)) c.deref.ensures.value c.in-Some.ensures

-- where it fails, once the note is taken off
fails : (c : After-pop-noted) → FailsAtNoted c.args.given.now c.requires.quiet.0 c.args.bounds.levels c.args.store.now c.args.candidate.now c.pop-noted.result c.pop-noted.new.self.items
fails c = λ k e. c.requires.quiet.3 k (reverse c.pop-noted.new.self.items) (note_taken c.args.notes.now.items c.pop-noted.new.self.items c.pop-noted.result k c.pop-noted.ensures.items e)

pub bound_premise-requires-clause-shallow : goal.bound_premise-requires-clause-shallow
bound_premise-requires-clause-shallow c = subst (λ (ps : List PremiseOf). PremisesAreShallow (map premise_of ps)) (sym c.deref.ensures.value) c.requires.shallow.1

pub descend_in_order-requires-clause-quiet : goal.descend_in_order-requires-clause-quiet
descend_in_order-requires-clause-quiet c =
    let q = c.requires.quiet in
    (q.0, q.1, q.2, fails (goal.at.descend_in_order-requires-clause-quiet c).After-pop-noted)

pub made_inputs-requires-clause-shallow : goal.made_inputs-requires-clause-shallow
made_inputs-requires-clause-shallow c =
    let x = found (goal.at.made_inputs-requires-clause-shallow c).In-Some in
    premise_shallow (rule_of c.args.candidate.now.rule.now).premises x.0 (holds (judgement_of c.in-Some.judgement.now)) c.requires.shallow.1 x.2

pub returns-in_ok-kid-in-Some-clause-grows : goal.returns-in_ok-kid-in-Some-clause-grows
returns-in_ok-kid-in-Some-clause-grows c =
    let m = set_modes c.args.given.now.rules.now in
    let su = subject_modes c.args.given.now.rules.now in
    let rs = rules_of c.args.given.now.rules.now in
    let r = rule_of c.args.candidate.now.rule.now in
    let q = c.requires.quiet in
    let x = found (goal.at.returns-in_ok-kid-in-Some-clause-grows c).In-Some in
    let f = fails (goal.at.returns-in_ok-kid-in-Some-clause-grows c).After-pop-noted in
    let made = c.in_ok-terms-in-Some.ensures in
    bound_grown m su rs q.0 c.facts.ensures.moded c.pop-noted.result c.pop-noted.new.self.items c.args.bounds.budget c.args.bounds.levels c.args.candidate.now.number r c.args.store.now c.args.given.now.facts.now c.args.given.now.pairs.now c.args.candidate.now.env c.args.spot c.requires.terms
    c.requires.store x.0 (judgement_of c.in-Some.judgement.now) x.1 x.2 x.3 q.2 f c.made_inputs.new.store c.in_ok-terms-in-Some.terms.items made.held made.binds made.kids made.frames made.until

pub returns-in_ok-kid-in-Some-clause-descent : goal.returns-in_ok-kid-in-Some-clause-descent
returns-in_ok-kid-in-Some-clause-descent c =
    let m = set_modes c.args.given.now.rules.now in
    let su = subject_modes c.args.given.now.rules.now in
    let rs = rules_of c.args.given.now.rules.now in
    let r = rule_of c.args.candidate.now.rule.now in
    let s = c.args.store.now in
    let q = c.requires.quiet in
    let x = found (goal.at.returns-in_ok-kid-in-Some-clause-descent c).In-Some in
    let f = fails (goal.at.returns-in_ok-kid-in-Some-clause-descent c).After-pop-noted in
    let made = c.in_ok-terms-in-Some.ensures in
    λ hyps are. for_hyps m s c.args.given.now.facts.now c.args.given.now.pairs.now q.0 hyps q.1 are
    (λ hs. IsDescent m su rs hs c.args.bounds.budget c.args.bounds.levels c.made_inputs.new.store c.pop-noted.new.self.items (PremisesLead m su rs hs c.args.bounds.budget c.args.bounds.levels c.args.candidate.now.number r (spot_goal s c.args.spot) c.args.spot.path.items 0 r.premises (env_at (store_envs s) c.args.candidate.now.env)) (Below c.in_ok-kid-in-Some.kid))
    (bound_below m su rs q.0 c.facts.ensures.moded c.pop-noted.result c.pop-noted.new.self.items c.args.bounds.budget c.args.bounds.levels c.args.candidate.now.number r s c.args.given.now.facts.now c.args.given.now.pairs.now c.args.candidate.now.env c.args.spot c.requires.terms
    c.requires.store x.0 (judgement_of c.in-Some.judgement.now) x.1 x.2 x.3 q.2 f c.made_inputs.new.store c.in_ok-terms-in-Some.terms.items made.held made.binds made.kids made.frames made.until c.in_ok-kid-in-Some.kid c.in_ok-kid-in-Some.ensures)
