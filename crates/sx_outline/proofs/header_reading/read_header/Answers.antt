use Rattle.sx_lines.specs.Left.{left}
use Rattle.sx_outline.specs.Known.{kept_lines}
use Rattle.sx_outline.proofs.HeaderLaws.{any_read}
use Rattle.sx_outline.proofs.header_reading.read_header.Goals as goal

pub returns-in_ok-name-in-Ok-clause-read : goal.returns-in_ok-name-in-Ok-clause-read
returns-in_ok-name-in-Ok-clause-read c =
    any_read c.in_ok-name-in-Ok.name c.in-Ok.line.number c.in-Ok.line.text.now c.in-Ok.more.bytes.now (kept_lines (left c.in-Ok.more)) (kept_lines (left c.args.lines)) c.read_language.result
    c.in-Ok.ensures.first c.in_ok-name-in-Ok.ensures c.read_language.ensures.read
