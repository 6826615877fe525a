use Rattle.std.proofs.Common.{map}
use Rattle.sx_core.specs.Rows.{sort_row}
use Rattle.sx_core.proofs.SortLaws.{sort_third}
use Rattle.sx_core.proofs.sort_table.sort_at.Goals as goal

pub returns : goal.returns
returns c = sort_third (map sort_row c.args.rows.now) c.args.number c.row_sort.result c.if-number-eq0.false c.if-number-eq1.false c.if-number-eq2.false c.row_sort.ensures
