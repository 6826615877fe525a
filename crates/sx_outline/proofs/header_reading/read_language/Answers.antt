use Rattle.sx_lines.specs.Left.{left}
use Rattle.sx_outline.specs.Known.{kept_lines}
use Rattle.sx_outline.proofs.HeaderLaws.{language_read, language_refused}
use Rattle.sx_outline.proofs.header_reading.read_language.Goals as goal

pub returns-in-Ok-read_uses-clause-read : goal.returns-in-Ok-read_uses-clause-read
returns-in-Ok-read_uses-clause-read c =
    language_read c.args.name c.in_ok-language-in-Ok.language c.in-Ok-read_uses.uses c.in-Ok-read_uses.left c.in-Ok.line.number c.in-Ok.line.text.now c.in-Ok.more.bytes.now
    (kept_lines (left c.in-Ok.more)) (kept_lines (left c.args.lines)) c.in-Ok.ensures.first c.in_ok-language-in-Ok.ensures c.in-Ok-read_uses.ensures.read

pub returns-in-Err-read_uses-clause-read : goal.returns-in-Err-read_uses-clause-read
returns-in-Err-read_uses-clause-read c =
    language_refused c.args.name c.in_ok-language-in-Ok.language
    c.in-Ok.line.number c.in-Ok.line.text.now c.in-Ok.more.bytes.now (kept_lines (left c.in-Ok.more)) (kept_lines (left c.args.lines)) c.in-Err-read_uses.e
    c.in-Ok.ensures.first c.in_ok-language-in-Ok.ensures c.in-Err-read_uses.ensures.read
