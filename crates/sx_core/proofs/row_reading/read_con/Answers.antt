use Rattle.sx_core.proofs.RowLaws.{con_refused, con_unsorted}
use Rattle.sx_core.proofs.row_reading.read_con.Goals as goal

pub returns-in-Err-read_names : goal.returns-in-Err-read_names
returns-in-Err-read_names c = con_refused c.args.text.now c.in-Ok.name c.in-Ok.rest.now c.in-Ok-read_name.sort c.in-Ok-read_name.rest.now c.in-Err-read_names.e c.in-Ok.ensures c.in-Ok-read_name.ensures c.in-Err-read_names.ensures

pub returns-in-Err-read_name : goal.returns-in-Err-read_name
returns-in-Err-read_name c = con_unsorted c.args.text.now c.in-Ok.name c.in-Ok.rest.now c.in-Err-read_name.e c.in-Ok.ensures c.in-Err-read_name.ensures
