use Rattle.sx_core.proofs.RowLaws.{sort_refused}
use Rattle.sx_core.proofs.row_reading.read_sort.Goals as goal

pub returns-in-None : goal.returns-in-None
returns-in-None c = sort_refused c.args.text.now c.in-Ok.name c.in-Ok.rest.now c.in-Ok.ensures c.in-None.ensures
