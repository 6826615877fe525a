use Rattle.sx_core.proofs.RowLaws.{form_refused, form_unnamed}
use Rattle.sx_core.proofs.row_reading.read_form.Goals as goal

pub returns-in-Err-read_places : goal.returns-in-Err-read_places
returns-in-Err-read_places c = form_refused c.args.text.now c.in-Ok.name c.in-Ok.rest.now c.in-Err-read_places.e c.in-Ok.ensures c.in-Err-read_places.ensures

pub returns-in-Err : goal.returns-in-Err
returns-in-Err c = form_unnamed c.args.text.now c.in-Err.e c.in-Err.ensures
