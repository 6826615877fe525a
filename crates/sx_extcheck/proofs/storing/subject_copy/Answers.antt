use Rattle.sx_rules.specs.Sets.{forms_in}
use Rattle.sx_rules.specs.Views.{judgement, subjects_in}
use Rattle.sx_extcheck.proofs.Checked.{first-shallow}
use Rattle.sx_extcheck.proofs.storing.subject_copy.Goals as goal

pub copy-requires : goal.copy-requires
copy-requires c =
    first-shallow (subjects_in (forms_in c.args.set.now) c.args.from.now.form) (judgement c.args.from.now).places c.in-Some.term.now c.requires.places c.in-Some.ensures
