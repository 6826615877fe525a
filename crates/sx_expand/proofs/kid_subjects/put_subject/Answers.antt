use Rattle.std.proofs.Common.{ℕ, Option, subst}
use Rattle.std.specs.Prelude.{slice_set}
use Rattle.sx_rules.specs.Discipline.{subjects_of}
use Rattle.sx_rules.specs.Sets.{forms_in, bare_rules_in}
use Rattle.sx_rules.specs.Views.{judgement, subjects_in}
use Rattle.sx_arena.specs.Arena.{trees, tree_at}
use Rattle.sx_rewrite.proofs.PutSubjects.{nothing-put}
use Rattle.sx_expand.specs.KidSubjects.{IsSubjectAt, IsKidSubject}
use Rattle.sx_expand.proofs.KidsPut.{number-put, none-lacks}
use Rattle.sx_expand.proofs.kid_subjects.put_subject.Goals as goal

pub put_at-requires-clause-within : goal.put_at-requires-clause-within
put_at-requires-clause-within c =
    let k = c.requires.kid.2 in
    let subjects = subjects_in (forms_in c.args.base.now) in
    (subst (λ (o : Option ℕ). IsSubjectAt (trees c.args.arena.now) (subjects_of subjects k.judgement) o) c.in-Some-subject.is (k.is k.judgement k.derives)).0

pub put_at-requires-clause-shallow : goal.put_at-requires-clause-shallow
put_at-requires-clause-shallow c =
    let k = c.requires.kid.2 in
    let subjects = subjects_in (forms_in c.args.base.now) in
    (subst (λ (o : Option ℕ). IsSubjectAt (trees c.args.arena.now) (subjects_of subjects k.judgement) o) c.in-Some-subject.is (k.is k.judgement k.derives)).1.0

pub returns-in-Some-subject : goal.returns-in-Some-subject
returns-in-Some-subject c = λ hyps kid is old h.
    let subjects = subjects_in (forms_in c.args.base.now) in
    let ts = trees c.args.arena.now in
    let k = subst (λ (o : Option ℕ). IsKidSubject subjects (bare_rules_in c.args.base.now) hyps ts kid o) c.in-Some-subject.is is in (
      slice_set old c.in-Some.variable (tree_at ts c.in-Some-subject.term),
      c.put_at.ensures old h,
      number-put subjects (bare_rules_in c.args.base.now) hyps (judgement c.args.premise.now) kid old c.in-Some.variable c.in-Some.ensures (tree_at ts c.in-Some-subject.term) (λ j d. (k.is j d).2),
    )

pub returns-in-None-subject : goal.returns-in-None-subject
returns-in-None-subject c = λ hyps kid is old h.
    let subjects = subjects_in (forms_in c.args.base.now) in
    let ts = trees c.args.arena.now in (
      old,
      h,
      none-lacks subjects (bare_rules_in c.args.base.now) hyps (judgement c.args.premise.now) kid old ts
          (subst (λ (o : Option ℕ). IsKidSubject subjects (bare_rules_in c.args.base.now) hyps ts kid o) c.in-None-subject.is is),
    )

pub returns-in-None : goal.returns-in-None
returns-in-None c = λ hyps kid is old h. (
  old,
  h,
  nothing-put (subjects_in (forms_in c.args.base.now)) (bare_rules_in c.args.base.now) hyps (judgement c.args.premise.now) kid old c.in-None.ensures,
)
