use Rattle.std.proofs.Common.{arith, ◌∙◌, ap}
use Rattle.sx_core.specs.Rows.{form_row}
use Rattle.sx_core.specs.Stated.{subject_count}
use Rattle.sx_core.specs.Resolving.{rows_in}
use Rattle.sx_core.proofs.ResolveLaws.{form_not}
use Rattle.sx_core.proofs.resolved.make_form.Goals as goal

pub returns-then-subject_count-gt1 : goal.returns-then-subject_count-gt1
returns-then-subject_count-gt1 c =
    form_not (rows_in c.args.table.now) c.requires.distinct (form_row c.args.row.now) c.in-Ok.places.items (rw c.deref.ensures.value at c.in-Ok.ensures)
    (λ h. let e = c.subject_count.ensures ∙ ap subject_count c.deref-in-Ok.ensures.value in let k = c.if-subject_count-gt1.true in absurd (omega arith))
