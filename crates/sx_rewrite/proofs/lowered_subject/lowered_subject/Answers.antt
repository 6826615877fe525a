use Rattle.std.proofs.Common.{map, refl}
use Rattle.sx_rules.specs.Sets.{forms_in}
use Rattle.sx_rules.specs.Views.{judgement, hypotheses, subjects_in}
use Rattle.sx_rewrite.proofs.Instanced.{conclusion-shallow}
use Rattle.sx_rewrite.proofs.KidInstances.{node-binds}
use Rattle.sx_rewrite.proofs.SubjectTerms.{ok-as, given-places, rule-subject, no-rule, given-subject, no-given}
use Rattle.sx_rewrite.proofs.lowered_subject.lowered_subject.Goals as goal

pub instance_subject-requires-clause-places : goal.instance_subject-requires-clause-places
instance_subject-requires-clause-places c = conclusion-shallow c.args.base.now.rules.items c.in-By.rule c.in-Some.found.now c.facts.ensures.shallow c.in-Some.ensures

pub instance_subject-requires-clause-binds : goal.instance_subject-requires-clause-binds
instance_subject-requires-clause-binds c = node-binds _ _ _ _ c.in-By.is _ c.in-By.kids.items c.deref.ensures.value refl c.requires.binds

pub own_subject-requires : goal.own_subject-requires
own_subject-requires c = given-places (map judgement c.args.given.now.holds.items) c.in-Given.number _ c.requires.near c.in-Some-hypothesis.ensures

pub returns-in-Some : goal.returns-in-Some
returns-in-Some c =
    ok-as c.instance_subject.result _ _
    (λ s h k d. rule-subject (subjects_in (forms_in c.args.base.now)) c.args.base.now.rules.items (hypotheses c.args.given.now) c.args.proof.now k d c.in-By.rule c.in-By.binds c.in-By.kids c.in-By.is
    c.deref.result.now c.in-Some.found.now s c.deref.ensures.value c.in-Some.ensures h) c.instance_subject.ensures

pub returns-in-None : goal.returns-in-None
returns-in-None c = λ k d.
    absurd (no-rule (subjects_in (forms_in c.args.base.now)) c.args.base.now.rules.items (hypotheses c.args.given.now) c.args.proof.now k d c.in-By.rule c.in-By.binds c.in-By.kids c.in-By.is c.in-None.ensures)

pub returns-in-Some-hypothesis : goal.returns-in-Some-hypothesis
returns-in-Some-hypothesis c =
    ok-as c.own_subject.result _ _
    (λ s h k d. given-subject (subjects_in (forms_in c.args.base.now)) c.args.base.now.rules.items (hypotheses c.args.given.now) c.args.proof.now k d c.in-Given.number c.in-Given.is
    (judgement c.in-Some-hypothesis.found.now) s c.in-Some-hypothesis.ensures h) c.own_subject.ensures

pub returns-in-None-hypothesis : goal.returns-in-None-hypothesis
returns-in-None-hypothesis c = λ k d.
    absurd (no-given (subjects_in (forms_in c.args.base.now)) c.args.base.now.rules.items (hypotheses c.args.given.now) c.args.proof.now k d c.in-Given.number c.in-Given.is c.in-None-hypothesis.ensures)
