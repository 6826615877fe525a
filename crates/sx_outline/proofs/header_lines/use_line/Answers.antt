use Rattle.std.proofs.Common.{ℕ, List}
use Rattle.sx_directives.specs.Rows.{IsRow}
use Rattle.sx_directives.specs.declared.file_kind.FileKind.TheVariants as files
use Rattle.sx_directives.specs.declared.row.Row.TheVariants.{Use}
use Rattle.sx_outline.specs.HeaderReading.{using}
use Rattle.sx_outline.proofs.HeaderLaws.{use_refused}
use Rattle.sx_outline.proofs.ReadRows.{where_none}
use Rattle.sx_outline.proofs.header_lines.use_line.Goals as goal

pub returns-in-Ok-None-clause-read : goal.returns-in-Ok-None-clause-read
returns-in-Ok-None-clause-read c = λ h.
    use_refused (using h c.args.uses.now.names.items) c.args.number c.args.text.now c.bad_line-in-Ok-None.result c.bad_line-in-Ok-None.ensures (c.is_use_line.ensures.0 c.if-not-is_use_line.false)
    (λ used new.
    where_none ((name : List ℕ) → IsRow files.Extension c.args.text.now (Use name) → ⊥) (λ name. IsRow files.Extension c.args.text.now (Use name)) c.in-Ok-None.field-0 c.in-Ok-None.field-0-is c.in-Ok-None.ensures used new.0)
