use Rattle.sx_directives.specs.Rows.{IsRow}
use Rattle.sx_directives.specs.declared.row.Row.{Row}
use Rattle.sx_outline.specs.Stages.{head_row}
use Rattle.sx_outline.proofs.ReadRows.{where_none}
use Rattle.sx_outline.proofs.StepLaws.{other_head}
use Rattle.sx_outline.proofs.head.first_line.Goals as goal

pub returns-in-None : goal.returns-in-None
returns-in-None c =
    other_head c.args.kind c.args.name.now c.args.number c.args.text.now c.bad_line-in-None.result c.bad_line-in-None.ensures
    (where_none ((row : Row) → IsRow c.args.kind c.args.text.now row → ⊥) (λ row. IsRow c.args.kind c.args.text.now row) c.in_ok-row.field-0 c.in-None.is c.in_ok-row.ensures
    (head_row c.args.kind c.args.name.now))
