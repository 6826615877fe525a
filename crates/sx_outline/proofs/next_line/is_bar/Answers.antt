use Rattle.std.proofs.lemmas.Bool.{false≢true}
use Rattle.sx_directives.specs.Rows.{IsRow}
use Rattle.sx_directives.specs.declared.file_kind.FileKind.TheVariants as files
use Rattle.sx_directives.specs.declared.row.Row.{Row}
use Rattle.sx_directives.specs.declared.row.Row.TheVariants.{Bar}
use Rattle.sx_outline.proofs.ReadRows.{where_none}
use Rattle.sx_outline.proofs.StepLaws.{bar_row}
use Rattle.sx_outline.proofs.next_line.is_bar.Goals as goal

pub returns-in-None : goal.returns-in-None
returns-in-None c = (
  λ f. absurd (false≢true f),
  λ e. absurd (where_none ((row : Row) → IsRow files.Language c.args.text.now row → ⊥) (λ row. IsRow files.Language c.args.text.now row) c.in_ok-row.field-0 c.in-None.is c.in_ok-row.ensures
      Bar (bar_row files.Language c.args.text.now e)),
)
