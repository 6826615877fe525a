use Rattle.std.proofs.Common.{Option, subst}
use Rattle.std.specs.Prelude.{slice_set}
use Rattle.sx_term.specs.declared.term.Term.{Term}
use Rattle.sx_term.specs.Term.{tree}
use Rattle.sx_rules.specs.Discipline.{subjects_of}
use Rattle.sx_rules.specs.ProofView.{proof}
use Rattle.sx_rules.specs.Sets.{forms_in, bare_rules_in}
use Rattle.sx_rules.specs.Views.{judgement, hypotheses, subjects_in}
use Rattle.sx_rules.specs.SubjectTerms.{IsSubject}
use Rattle.sx_rewrite.proofs.SubjectTerms.{subject-shallow}
use Rattle.sx_rewrite.proofs.PutSubjects.{subject-put, subject-lacks, nothing-put}
use Rattle.sx_rewrite.proofs.put_subjects.put_subject.Goals as goal

pub put_at-requires : goal.put_at-requires
put_at-requires c =
    let k = c.requires.ready.judgement in
    let subjects = subjects_in (forms_in c.args.base.now) in
    subject-shallow (subjects k.form) k.places (tree c.in-Some-2.term) c.requires.ready.places
    (subst (λ (s : Option Term). IsSubject (subjects_of subjects k) s) c.in-Some-2.is (c.in_ok-term-in-Some.ensures k c.requires.ready.derives))

pub returns-in-Some-2 : goal.returns-in-Some-2
returns-in-Some-2 c = λ old h.
    let subjects = subjects_in (forms_in c.args.base.now) in (
      slice_set old c.in-Some.variable (tree c.in-Some-2.term),
      c.put_at.ensures old h,
      subject-put subjects (bare_rules_in c.args.base.now) (hypotheses c.args.given.now) (judgement c.args.premise.now) (proof c.args.kid.now) old c.in-Some.variable c.in-Some.ensures c.in-Some-2.term
          (λ k d. subst (λ (s : Option Term). IsSubject (subjects_of subjects k) s) c.in-Some-2.is (c.in_ok-term-in-Some.ensures k d)),
    )

pub returns-in-None-2 : goal.returns-in-None-2
returns-in-None-2 c = λ old h.
    let subjects = subjects_in (forms_in c.args.base.now) in (
      old,
      h,
      subject-lacks subjects (bare_rules_in c.args.base.now) (hypotheses c.args.given.now) (judgement c.args.premise.now) (proof c.args.kid.now) old
          (λ k d. subst (λ (s : Option Term). IsSubject (subjects_of subjects k) s) c.in-None-2.is (c.in_ok-term-in-Some.ensures k d)),
    )

pub returns-in-None : goal.returns-in-None
returns-in-None c = λ old h. (
  old,
  h,
  nothing-put (subjects_in (forms_in c.args.base.now)) (bare_rules_in c.args.base.now) (hypotheses c.args.given.now) (judgement c.args.premise.now) (proof c.args.kid.now) old c.in-None.ensures,
)
