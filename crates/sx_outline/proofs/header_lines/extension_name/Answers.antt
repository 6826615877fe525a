use Rattle.sx_directives.specs.Rows.{IsRow}
use Rattle.sx_directives.specs.declared.file_kind.FileKind.TheVariants as files
use Rattle.sx_directives.specs.declared.row.Row.{Row}
use Rattle.sx_directives.specs.declared.row.Row.TheVariants.{Extension}
use Rattle.sx_outline.proofs.ReadRows.{where_none}
use Rattle.sx_outline.proofs.header_lines.extension_name.Goals as goal

pub returns-in-None : goal.returns-in-None
returns-in-None c = λ name.
    where_none ((row : Row) → IsRow files.Extension c.args.text.now row → ⊥) (λ row. IsRow files.Extension c.args.text.now row) c.in_ok-row.field-0 c.in-None.is c.in_ok-row.ensures (Extension name)
