use Rattle.std.proofs.Common.{sym, ◌∙◌}
use Rattle.std.proofs.lemmas.Bool.{false≢true}
use Rattle.sx_outline.specs.View as view
use Rattle.sx_outline.proofs.StepLaws.{row_in, shape_in, fits_from, unfit_row, no_row, row_taken}
use Rattle.sx_outline.proofs.next_line.row_line.Goals as goal

pub returns-in-Ok-false-clause-read : goal.returns-in-Ok-false-clause-read
returns-in-Ok-false-clause-read c = λ name s reader front.
    unfit_row c.args.kind (view.known c.args.known.now) name c.args.reader s c.args.line.number c.args.line.text.now c.in-Ok-Some.row c.bad_line.result c.bad_line.ensures c.requires.due reader
    (row_in c.args.kind c.args.line.text.now c.in-Ok-Some.field-0 c.in-Ok-Some.row c.in-Ok-Some.field-0-is c.in-Ok-Some.ensures)
    (λ fits. false≢true (sym c.in-Ok-false.field-0-test
    ∙ (fits_from (view.known c.args.known.now) s.declared c.args.reader.forms c.args.reader.vars c.in-Ok-false.field-0 c.in-Ok-Some.row c.in-Ok-false.ensures front reader.forms_are reader.vars_are).1 fits))

pub returns-in-Ok-true-clause-read : goal.returns-in-Ok-true-clause-read
returns-in-Ok-true-clause-read c = λ name.
    row_taken c.args.kind (view.known c.args.known.now) name c.args.reader c.args.line.number c.args.line.text.now c.in-Ok-Some.row c.take_row.result c.requires.due
    (row_in c.args.kind c.args.line.text.now c.in-Ok-Some.field-0 c.in-Ok-Some.row c.in-Ok-Some.field-0-is c.in-Ok-Some.ensures)
    (λ s reader front. (fits_from (view.known c.args.known.now) s.declared c.args.reader.forms c.args.reader.vars c.in-Ok-true.field-0 c.in-Ok-Some.row c.in-Ok-true.ensures front reader.forms_are reader.vars_are).0 c.in-Ok-true.field-0-test)
    c.take_row.ensures.taken

pub returns-in-Err-Shape-clause-read : goal.returns-in-Err-Shape-clause-read
returns-in-Err-Shape-clause-read c = λ name s reader front.
    no_row c.args.kind (view.known c.args.known.now) name c.args.reader s c.args.line.number c.args.line.text.now c.bad_line-in-Err-Shape.result c.bad_line-in-Err-Shape.ensures c.requires.due reader
    (shape_in c.args.kind c.args.line.text.now c.in-Err-Shape.field-0 c.in-Err-Shape.field-0-is c.in-Err-Shape.ensures)
