use Rattle.sx_outline.proofs.ReadRows.{spelled_in}
use Rattle.sx_outline.proofs.spelled_row.spelled_row.Goals as goal

pub returns-in-Ok : goal.returns-in-Ok
returns-in-Ok c = spelled_in c.args.kind c.args.text.now c.in-Ok.read c.in-Ok.ensures
