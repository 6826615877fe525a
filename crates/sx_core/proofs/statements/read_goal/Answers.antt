use Rattle.std.proofs.Common.{◌∙◌, ap, sym}
use Rattle.sx_term.specs.Shapes.{shapes}
use Rattle.sx_core.specs.Stated.{subject_count}
use Rattle.sx_core.specs.Statements.{known_in}
use Rattle.sx_core.proofs.StatementLaws.{goal_no_subject, goal_no_inputs, goal_no_form}
use Rattle.sx_core.proofs.statements.read_goal.Goals as goal

pub returns-then-subject_count-ne1 : goal.returns-then-subject_count-ne1
returns-then-subject_count-ne1 c =
    goal_no_subject (shapes c.args.all.now) (known_in c.args.table.now) c.requires.distinct c.args.text.now c.in-Ok.form c.in-Ok.rest.now c.in-Ok.ensures
    (λ e. c.if-subject_count-ne1.true (c.subject_count.ensures ∙ ap subject_count c.places_in-places.ensures ∙ e))

pub returns-in-Ok : goal.returns-in-Ok
returns-in-Ok c =
    goal_no_inputs (shapes c.args.all.now) (known_in c.args.table.now) c.requires.distinct c.args.text.now c.in-Ok.form c.in-Ok.rest.now c.in_ok-sorts-in-Ok.sorts.items c.in-Err-read_inputs.e c.in-Ok.ensures
    (ap subject_count (sym c.places_in-places.ensures) ∙ sym c.subject_count.ensures ∙ c.if-subject_count-ne1.false)
    (rw c.places_in-places.ensures at c.in_ok-sorts-in-Ok.ensures) (rw c.deref.ensures.value at c.in-Err-read_inputs.ensures)

pub returns : goal.returns
returns c = goal_no_form (shapes c.args.all.now) (known_in c.args.table.now) c.args.text.now c.in-Err.e c.in-Err.ensures
