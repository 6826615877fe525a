use Rattle.std.proofs.Common.{ap}
use Rattle.sx_lines.specs.Left.{left}
use Rattle.sx_outline.specs.Known.{kept_lines}
use Rattle.sx_outline.proofs.ExtensionLaws.{extension_read, extension_refused}
use Rattle.sx_outline.proofs.ExtensionFits.{sized_answer, fit_answer}
use Rattle.sx_outline.proofs.extension_reading.read_extension_outline.Goals as goal

pub returns-in-Ok-read_header-clause-answer : goal.returns-in-Ok-read_header-clause-answer
returns-in-Ok-read_header-clause-answer c =
    extension_read c.args.sorts.now c.args.vars.now c.args.bytes.now c.in-Ok-read_header.header c.in-Ok-read_header.left (kept_lines (left c.all.result)) c.read_after.result
    (ap kept_lines c.all.ensures.lines) c.in-Ok.ensures.cases.1 c.in-Ok-read_header.ensures.read c.read_after.ensures

pub returns-in-Ok-read_header-clause-sized : goal.returns-in-Ok-read_header-clause-sized
returns-in-Ok-read_header-clause-sized c =
    sized_answer c.args.sorts.now c.args.vars.now c.args.bytes.now c.read_after.result (extension_read c.args.sorts.now c.args.vars.now c.args.bytes.now c.in-Ok-read_header.header c.in-Ok-read_header.left (kept_lines (left c.all.result)) c.read_after.result
    (ap kept_lines c.all.ensures.lines) c.in-Ok.ensures.cases.1 c.in-Ok-read_header.ensures.read c.read_after.ensures)

pub returns-in-Ok-read_header-clause-fit : goal.returns-in-Ok-read_header-clause-fit
returns-in-Ok-read_header-clause-fit c =
    fit_answer c.args.sorts.now c.args.vars.now c.args.bytes.now c.read_after.result (extension_read c.args.sorts.now c.args.vars.now c.args.bytes.now c.in-Ok-read_header.header c.in-Ok-read_header.left (kept_lines (left c.all.result)) c.read_after.result
    (ap kept_lines c.all.ensures.lines) c.in-Ok.ensures.cases.1 c.in-Ok-read_header.ensures.read c.read_after.ensures)

pub returns-in-Err-read_header-clause-answer : goal.returns-in-Err-read_header-clause-answer
returns-in-Err-read_header-clause-answer c =
    extension_refused c.args.sorts.now c.args.vars.now c.args.bytes.now (kept_lines (left c.all.result)) c.in-Err-read_header.e (ap kept_lines c.all.ensures.lines) c.in-Ok.ensures.cases.1
    c.in-Err-read_header.ensures.read
