use Rattle.std.proofs.Common.{subst, sym}
use Rattle.sx_core.specs.Machine.{NextRefused}
use Rattle.sx_core.proofs.LineLaws.{step_refused}
use Rattle.sx_core.proofs.NextLaws.{fresh}
use Rattle.sx_core.proofs.next_line.take_line.Goals as goal

pub take-requires : goal.take-requires
take-requires c = fresh c.args.reader.found c.args.text.now c.args.read c.requires.found c.requires.read

pub returns-in-Ok : goal.returns-in-Ok
returns-in-Ok c = (c.args.read, c.requires.read, c.in-Ok.ensures)

pub returns-in-Err : goal.returns-in-Err
returns-in-Err c = subst (NextRefused c.args.reader c.args.number c.args.text.now) (sym c.step_error.ensures) (step_refused c.args.reader c.args.number c.args.text.now c.args.read c.in-Err.e c.requires.usual c.requires.read c.in-Err.ensures)
