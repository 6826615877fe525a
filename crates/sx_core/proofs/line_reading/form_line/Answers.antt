use Rattle.std.proofs.Common.{sym, ◌∙◌, subst}
use Rattle.std.specs.Prelude.{Contains}
use Rattle.std.proofs.lemmas.Bool.{false≢true}
use Rattle.sx_rules.specs.Views.{form}
use Rattle.sx_core.specs.Reading.{context}
use Rattle.sx_core.specs.declared.keyword.Keyword.TheVariants as word
use Rattle.sx_core.specs.Rows.{form_row}
use Rattle.sx_core.specs.declared.terms_row.RowError.TheVariants.{Shape as Bad}
use Rattle.sx_core.proofs.PartLaws.{line_fits, line_refused, form_part, form_bad, form_taken, form_not}
use Rattle.sx_core.proofs.line_reading.form_line.Goals as goal

pub returns-then-has : goal.returns-then-has
returns-then-has c =
    line_refused (context c.args.found.now) word.Form c.args.text.now c.args.rest.now Bad c.requires.line
    (form_taken (context c.args.found.now) c.args.rest.now (form_row c.in-Ok.row) c.in-Ok.ensures (subst (λ names. Contains names c.in-Ok.row.name) c.requires.found.forms.names ((rw c.bytes.ensures.value at c.has.ensures).0 c.if-has.true)))

pub returns-in-Ok-made : goal.returns-in-Ok-made
returns-in-Ok-made c = (
  form_row c.in-Ok.row,
  line_fits (context c.args.found.now) word.Form c.args.text.now c.args.rest.now c.requires.line (form_row c.in-Ok.row)
      (form_part (context c.args.found.now) c.args.rest.now (form_row c.in-Ok.row) (form c.in-Ok-made.form) c.in-Ok.ensures
      (λ h. false≢true (sym c.if-has.false ∙ (rw c.bytes.ensures.value at c.has.ensures).1 (subst (λ names. Contains names c.in-Ok.row.name) (sym c.requires.found.forms.names) h))) c.in-Ok-made.ensures),
  c.in-Ok-made.ensures,
)

pub returns-in-Err-made : goal.returns-in-Err-made
returns-in-Err-made c = line_refused (context c.args.found.now) word.Form c.args.text.now c.args.rest.now c.in-Err-made.e c.requires.line (form_not (context c.args.found.now) c.args.rest.now (form_row c.in-Ok.row) c.in-Err-made.e c.in-Ok.ensures c.in-Err-made.ensures)

pub returns-in-Err : goal.returns-in-Err
returns-in-Err c = line_refused (context c.args.found.now) word.Form c.args.text.now c.args.rest.now c.in-Err.e c.requires.line (form_bad (context c.args.found.now) c.args.rest.now c.in-Err.e c.in-Err.ensures)
