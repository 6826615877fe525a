use Rattle.sx_term.specs.Term.{tree}
use Rattle.sx_rules.specs.Discipline.{subjects_of}
use Rattle.sx_rules.specs.Sets.{forms_in}
use Rattle.sx_rules.specs.Views.{judgement, subjects_in}
use Rattle.sx_rewrite.proofs.PutSubjects.{is-variable}
use Rattle.sx_rewrite.proofs.subject_variable.premise_variable.Goals as goal

pub returns-in-Some : goal.returns-in-Some
returns-in-Some c =
    is-variable (subjects_of (subjects_in (forms_in c.args.set.now)) (judgement c.args.premise.now))
    (tree c.in-Some.term.now) c.in-Some.ensures c.variable_of.result c.variable_of.ensures
