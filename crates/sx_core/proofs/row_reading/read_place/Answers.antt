use Rattle.sx_core.proofs.RowLaws.{place_refused}
use Rattle.sx_core.proofs.row_reading.read_place.Goals as goal

pub returns-in-Err : goal.returns-in-Err
returns-in-Err c = place_refused c.args.text.now c.in-Some.word.now c.in-Some.rest.now c.in-Err.e c.in-Some.ensures c.in-Err.ensures
