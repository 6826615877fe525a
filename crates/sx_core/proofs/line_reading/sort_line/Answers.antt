use Rattle.std.proofs.Common.{sym, ◌∙◌}
use Rattle.std.proofs.lemmas.Bool.{false≢true}
use Rattle.sx_core.specs.Reading.{context}
use Rattle.sx_core.specs.declared.keyword.Keyword.TheVariants as word
use Rattle.sx_core.specs.Rows.{sort_row}
use Rattle.sx_core.specs.declared.terms_row.RowError.TheVariants.{Shape as Bad}
use Rattle.sx_core.proofs.PartLaws.{line_fits, line_refused, sort_part, sort_bad, sort_taken}
use Rattle.sx_core.proofs.line_reading.sort_line.Goals as goal

pub returns-then-has : goal.returns-then-has
returns-then-has c = line_refused (context c.args.found.now) word.Sort c.args.text.now c.args.rest.now Bad c.requires.line (sort_taken (context c.args.found.now) c.args.rest.now (sort_row c.in-Ok.row) c.in-Ok.ensures ((rw c.bytes.ensures.value at c.has.ensures).0 c.if-has.true))

pub returns-else-has : goal.returns-else-has
returns-else-has c =
    line_fits (context c.args.found.now) word.Sort c.args.text.now c.args.rest.now c.requires.line (sort_row c.in-Ok.row) (sort_part (context c.args.found.now) c.args.rest.now (sort_row c.in-Ok.row) c.in-Ok.ensures (λ h. false≢true (sym c.if-has.false ∙ (rw c.bytes.ensures.value at c.has.ensures).1 h)))

pub returns-in-Err : goal.returns-in-Err
returns-in-Err c = line_refused (context c.args.found.now) word.Sort c.args.text.now c.args.rest.now c.in-Err.e c.requires.line (sort_bad (context c.args.found.now) c.args.rest.now c.in-Err.e c.in-Err.ensures)
