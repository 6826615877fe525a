use Rattle.std.proofs.Common.{map}
use Rattle.sx_term.specs.Term.{tree}
use Rattle.sx_rules.specs.Sets.{forms_in}
use Rattle.sx_rules.specs.Views.{subjects_in}
use Rattle.sx_rewrite.proofs.SubjectTerms.{subject-shallow}
use Rattle.sx_rewrite.proofs.lowered_subject.own_subject.Goals as goal

pub copy-requires : goal.copy-requires
copy-requires c =
    subject-shallow (subjects_in (forms_in c.args.set.now) c.args.from.now.form) (map tree c.args.from.now.places.items) (tree c.in-Some.term.now) c.requires c.in-Some.ensures
