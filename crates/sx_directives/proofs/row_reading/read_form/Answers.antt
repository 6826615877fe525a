use Rattle.sx_directives.proofs.RowLaws.{no_form_symbols}
use Rattle.sx_directives.proofs.row_reading.read_form.Goals as goal

pub returns-in-Err : goal.returns-in-Err
returns-in-Err c = no_form_symbols c.args.parts.now c.in-Err.e c.in-len2-up.len_at_least c.in-Err.ensures
