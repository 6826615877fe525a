use Rattle.std.proofs.Common.{sym, ◌∙◌, subst}
use Rattle.std.specs.Prelude.{Contains}
use Rattle.std.proofs.lemmas.Bool.{false≢true}
use Rattle.sx_term.specs.Shapes.{shape}
use Rattle.sx_core.specs.Reading.{context}
use Rattle.sx_core.specs.declared.keyword.Keyword.TheVariants as word
use Rattle.sx_core.specs.Rows.{con_row}
use Rattle.sx_core.specs.declared.terms_row.RowError.TheVariants.{Shape as Bad}
use Rattle.sx_core.proofs.PartLaws.{line_fits, line_refused, con_part, con_bad, con_taken, con_not}
use Rattle.sx_core.proofs.line_reading.con_line.Goals as goal

pub returns-then-has : goal.returns-then-has
returns-then-has c =
    line_refused (context c.args.found.now) word.Con c.args.text.now c.args.rest.now Bad c.requires.line
    (con_taken (context c.args.found.now) c.args.rest.now (con_row c.in-Ok.row) c.in-Ok.ensures (subst (λ names. Contains names c.in-Ok.row.name) c.requires.found.con_names ((rw c.bytes.ensures.value at c.has.ensures).0 c.if-has.true)))

pub returns-in-Ok-make_con : goal.returns-in-Ok-make_con
returns-in-Ok-make_con c = (
  line_fits (context c.args.found.now) word.Con c.args.text.now c.args.rest.now c.requires.line (con_row c.in-Ok.row)
      (con_part (context c.args.found.now) c.args.rest.now (con_row c.in-Ok.row) (shape c.in-Ok-make_con.con) c.in-Ok.ensures
      (λ h. false≢true (sym c.if-has.false ∙ (rw c.bytes.ensures.value at c.has.ensures).1 (subst (λ names. Contains names c.in-Ok.row.name) (sym c.requires.found.con_names) h))) c.in-Ok-make_con.ensures),
  c.in-Ok-make_con.ensures,
)

pub returns-in-Err-make_con : goal.returns-in-Err-make_con
returns-in-Err-make_con c = line_refused (context c.args.found.now) word.Con c.args.text.now c.args.rest.now c.in-Err-make_con.e c.requires.line (con_not (context c.args.found.now) c.args.rest.now (con_row c.in-Ok.row) c.in-Err-make_con.e c.in-Ok.ensures c.in-Err-make_con.ensures)

pub returns-in-Err : goal.returns-in-Err
returns-in-Err c = line_refused (context c.args.found.now) word.Con c.args.text.now c.args.rest.now c.in-Err.e c.requires.line (con_bad (context c.args.found.now) c.args.rest.now c.in-Err.e c.in-Err.ensures)
