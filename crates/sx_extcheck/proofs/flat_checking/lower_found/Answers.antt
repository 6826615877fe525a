use Rattle.std.proofs.Common.{◌≡◌, ◌∷◌, [], sym, subst}
use Rattle.std.specs.Prelude.{Err}
use Rattle.sx_term.specs.Tree.{Tree}
use Rattle.sx_rules.specs.declared.rule_set.RuleSet.{RuleSet}
use Rattle.sx_rules.specs.Discipline.{subjects_of}
use Rattle.sx_rules.specs.EntryView.{entries}
use Rattle.sx_rules.specs.Sets.{forms_in}
use Rattle.sx_rules.specs.Views.{hypotheses, goal as goal_view, judgement, subjects_in}
use Rattle.sx_rewrite.specs.declared.ext_rule.ExtRule.{ExtRule as ExtRuleOf}
use Rattle.sx_rewrite.specs.AcceptedView.{accepted, signature}
use Rattle.sx_rewrite.specs.PlainRules.{plain_of}
use Rattle.sx_expand.specs.Expansions.{IsListedFrom}
use Rattle.sx_extcheck.specs.declared.check_error.CheckError.{CheckError}
use Rattle.sx_extcheck.specs.CheckView.{check_of, IsFoundRule, IsRuleChecked}
use Rattle.sx_extcheck.proofs.FoundRules.{asked-shallow, asked-one, asked-given, asked-shallow_given, asked-listed, found-refused, told-shallow, told-subject, told-listed, list-as, found-checked}
use Rattle.sx_extcheck.proofs.flat_checking.lower_found.Goals as goal
use Rattle.sx_extcheck.proofs.flat_checking.lower_found.Goals.{After-facts}

-- the list is what expanding asks for
list_asked : (c : After-facts) (ext : ExtRuleOf) (f : IsFoundRule c.args.checking.now ext c.args.given.now c.args.goal.now (entries c.args.list.now)) → IsListedFrom (signature c.args.checking.now.set.now).modes (plain_of (accepted c.args.checking.now.set.now)) (hypotheses c.args.given.now) (goal_view c.args.goal.now.goal) (entries c.args.list.now) f.answer
list_asked c ext f = asked-listed c.args.checking.now ext c.args.given.now c.args.goal.now (entries c.args.list.now) f c.facts.ensures.plain.forms_are c.facts.ensures.plain_rules

pub expand_open-requires-clause-shallow : goal.expand_open-requires-clause-shallow
expand_open-requires-clause-shallow c =
    let r = c.requires in asked-shallow c.args.checking.now r.0 c.args.given.now c.args.goal.now (entries c.args.list.now) r.1

pub expand_open-requires-clause-one : goal.expand_open-requires-clause-one
expand_open-requires-clause-one c =
    let r = c.requires in asked-one c.args.checking.now r.0 c.args.given.now c.args.goal.now (entries c.args.list.now) r.1

pub expand_open-requires-clause-given : goal.expand_open-requires-clause-given
expand_open-requires-clause-given c =
    let r = c.requires in asked-given c.args.checking.now r.0 c.args.given.now c.args.goal.now (entries c.args.list.now) r.1

pub expand_open-requires-clause-listed : goal.expand_open-requires-clause-listed
expand_open-requires-clause-listed c =
    let r = c.requires in
    (r.1.answer, list_asked (goal.at.expand_open-requires-clause-listed c).After-facts r.0 r.1)

pub with_certificate-stored-requires-clause-given : goal.with_certificate-stored-requires-clause-given
with_certificate-stored-requires-clause-given c =
    let r = c.requires in asked-shallow_given c.args.checking.now r.0 c.args.given.now c.args.goal.now (entries c.args.list.now) r.1

pub with_certificate-stored-requires-clause-places : goal.with_certificate-stored-requires-clause-places
with_certificate-stored-requires-clause-places c =
    let r = c.requires in
    let listed = list_asked (goal.at.with_certificate-stored-requires-clause-places c).After-facts r.0 r.1 in
    told-shallow c.args.checking.now r.0 c.args.given.now c.args.goal.now (entries c.args.list.now) r.1 c.facts.ensures.plain.forms_are c.facts.ensures.plain_rules c.in-Ok.expanded (c.in-Ok.ensures r.1.answer listed)

pub with_certificate-stored-requires-clause-subject : goal.with_certificate-stored-requires-clause-subject
with_certificate-stored-requires-clause-subject c =
    let r = c.requires in
    let listed = list_asked (goal.at.with_certificate-stored-requires-clause-subject c).After-facts r.0 r.1 in
    subst (λ (s : RuleSet). (t : Tree) × (subjects_of (subjects_in (forms_in s)) (judgement c.in-Ok.expanded.judgement) ≡ t ∷ [])) (sym c.base_rules-base.ensures)
    (told-subject c.args.checking.now r.0 c.args.given.now c.args.goal.now (entries c.args.list.now) r.1 c.facts.ensures.plain.forms_are c.facts.ensures.plain_rules c.in-Ok.expanded (c.in-Ok.ensures r.1.answer listed))

pub with_certificate-stored-requires-clause-listed : goal.with_certificate-stored-requires-clause-listed
with_certificate-stored-requires-clause-listed c =
    let r = c.requires in
    let listed = list_asked (goal.at.with_certificate-stored-requires-clause-listed c).After-facts r.0 r.1 in
    let is = c.in-Ok.ensures r.1.answer listed in (
      is.0,
      list-as c.base_rules-base.ensures c.as_slice-lowered.ensures.value (hypotheses c.args.given.now) (judgement c.in-Ok.expanded.judgement) is.0
          (told-listed c.args.checking.now r.0 c.args.given.now c.args.goal.now (entries c.args.list.now) r.1 c.facts.ensures.plain.forms_are c.facts.ensures.plain_rules c.in-Ok.expanded is),
    )

pub returns-in_ok-stored-in-Ok : goal.returns-in_ok-stored-in-Ok
returns-in_ok-stored-in-Ok c = λ ext f.
    let k = c.args.checking.now in
    let given = c.args.given.now in
    let goal = c.args.goal.now in
    let list = entries c.args.list.now in
    let plain = c.facts.ensures.plain.forms_are in
    let rules = c.facts.ensures.plain_rules in
    let x = c.in-Ok.expanded in
    let is = c.in-Ok.ensures f.answer (asked-listed k ext given goal list f plain rules) in
    let has = list-as c.base_rules-base.ensures c.as_slice-lowered.ensures.value (hypotheses given) (judgement x.judgement) is.0 (told-listed k ext given goal list f plain rules x is) in
    let e = c.in_ok-stored-in-Ok.ensures is.0 has in
    let subject = rw c.base_rules-base.ensures at e.0 in
    found-checked k ext given goal list f plain rules x is c.in_ok-stored-in-Ok.field-0 subject e.1

pub returns-in-Err : goal.returns-in-Err
returns-in-Err c = λ ext f.
    let listed = list_asked (goal.at.returns-in-Err c).After-facts ext f in
    subst (λ (x : CheckError). IsRuleChecked (check_of c.args.checking.now) ext (Err x)) (sym c.rewrite_defect.ensures)
    (found-refused c.args.checking.now ext c.args.given.now c.args.goal.now (entries c.args.list.now) f c.facts.ensures.plain.forms_are c.facts.ensures.plain_rules c.in-Err.e (c.in-Err.ensures f.answer listed))
