use Rattle.std.proofs.Common.{map}
use Rattle.sx_term.specs.Term.{tree}
use Rattle.sx_term.specs.Instances.{bound_by}
use Rattle.sx_rules.specs.Sets.{forms_in}
use Rattle.sx_rules.specs.Views.{judgement, subjects_in}
use Rattle.sx_rewrite.proofs.SubjectTerms.{subject-shallow, instance-some, instance-none}
use Rattle.sx_rewrite.proofs.lowered_subject.instance_subject.Goals as goal

pub instance_made-requires-clause-shallow : goal.instance_made-requires-clause-shallow
instance_made-requires-clause-shallow c =
    subject-shallow (subjects_in (forms_in c.args.set.now) c.args.from.now.form) (map tree c.args.from.now.places.items) (tree c.in-Some.term.now) c.requires.places c.in-Some.ensures

pub returns-in_ok-instance_made-in-Some : goal.returns-in_ok-instance_made-in-Some
returns-in_ok-instance_made-in-Some c =
    instance-some (subjects_in (forms_in c.args.set.now)) (bound_by (map tree c.args.binds.now)) (judgement c.args.from.now) (tree c.in-Some.term.now) c.in_ok-instance_made-in-Some.field-0
    c.in-Some.ensures c.in_ok-instance_made-in-Some.ensures

pub returns-in-None : goal.returns-in-None
returns-in-None c = instance-none (subjects_in (forms_in c.args.set.now)) (bound_by (map tree c.args.binds.now)) (judgement c.args.from.now) c.in-None.ensures
