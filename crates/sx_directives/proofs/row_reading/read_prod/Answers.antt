use Rattle.sx_directives.proofs.RowLaws.{no_symbols}
use Rattle.sx_directives.proofs.row_reading.read_prod.Goals as goal

pub returns-in-Err : goal.returns-in-Err
returns-in-Err c = no_symbols c.args.parts.now c.in-Err.e c.in-len4-up.len_at_least c.in-Err.ensures
