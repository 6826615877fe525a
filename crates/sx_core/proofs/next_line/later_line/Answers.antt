use Rattle.std.proofs.Common.{subst, sym, refl}
use Rattle.sx_core.specs.Machine.{NextRefused}
use Rattle.sx_core.proofs.LineLaws.{row_refused}
use Rattle.sx_core.proofs.next_line.later_line.Goals as goal

pub returns-in-Err : goal.returns-in-Err
returns-in-Err c = subst (NextRefused c.args.reader c.args.number c.args.text.now) (sym c.line_error.ensures) (row_refused c.args.reader c.args.number c.args.text.now c.in-Some.keyword c.in-Some.rest.now c.in-Err.e c.requires.usual c.in-Some.ensures c.in-Err.ensures)

pub returns-in-None : goal.returns-in-None
returns-in-None c = (refl, (c.requires.usual, c.in-None.ensures))
