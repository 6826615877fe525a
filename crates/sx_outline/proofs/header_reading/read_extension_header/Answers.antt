use Rattle.std.proofs.Common.{Ok, Err, ap}
use Rattle.sx_lines.specs.Left.{left}
use Rattle.sx_outline.specs.Known.{kept_lines}
use Rattle.sx_outline.proofs.HeaderLaws.{header_read}
use Rattle.sx_outline.proofs.header_reading.read_extension_header.Goals as goal

pub returns-in-Ok-read_named : goal.returns-in-Ok-read_named
returns-in-Ok-read_named c =
    header_read c.args.name.now c.args.bytes.now (Ok (c.in-Ok-read_named.header, c.in-Ok-read_named._left)) (kept_lines (left c.all.result)) (ap kept_lines c.all.ensures.lines) c.in-Ok.ensures.cases.1 c.in-Ok-read_named.ensures

pub returns-in-Err-read_named : goal.returns-in-Err-read_named
returns-in-Err-read_named c =
    header_read c.args.name.now c.args.bytes.now (Err c.in-Err-read_named.e) (kept_lines (left c.all.result)) (ap kept_lines c.all.ensures.lines) c.in-Ok.ensures.cases.1 c.in-Err-read_named.ensures
