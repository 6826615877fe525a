use Rattle.sx_directives.proofs.RowLaws.{no_names}
use Rattle.sx_directives.proofs.row_reading.read_plain.Goals as goal

pub returns-in-Err : goal.returns-in-Err
returns-in-Err c = no_names c.args.parts.now c.in-Err.e c.in-len1-up.len_at_least c.in-Err.ensures
