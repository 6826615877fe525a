use Rattle.sx_lines.specs.Left.{left}
use Rattle.sx_outline.specs.Known.{kept_lines}
use Rattle.sx_outline.specs.View as view
use Rattle.sx_outline.proofs.ReadLaws.{begun_reading, reading_on, reading_refused, reading_ended}
use Rattle.sx_outline.proofs.reading.read_lines.Goals as goal

pub lines-init : goal.lines-init
lines-init c =
    begun_reading c.args.kind (view.known c.args.known.now) c.args.name.now c.args.reader (kept_lines (left c.args.lines)) c.args.lines.bytes.now c.requires.room c.requires.utf8

pub lines-preserved : goal.lines-preserved
lines-preserved c =
    reading_on c.args.kind (view.known c.args.known.now) c.args.name.now c.args.reader (kept_lines (left c.args.lines)) c.lines.reader c.in-Ok-read_next.next (kept_lines (left c.lines.left))
    c.lines.left.bytes.now c.in-Ok.line.number c.in-Ok.line.text.now c.in-Ok.more.bytes.now (kept_lines (left c.in-Ok.more))
    c.in-Ok.ensures.first c.in-Ok.ensures.shorter (c.in-Ok.ensures.utf8 c.lines.invariant.utf8).1 c.in-Ok-read_next.ensures.read c.in-Ok-read_next.ensures.grows c.lines.invariant

pub returns-in-Err-read_next : goal.returns-in-Err-read_next
returns-in-Err-read_next c =
    reading_refused c.args.kind (view.known c.args.known.now) c.args.name.now c.args.reader (kept_lines (left c.args.lines)) c.lines.reader (kept_lines (left c.lines.left)) c.lines.left.bytes.now
    c.in-Ok.line.number c.in-Ok.line.text.now c.in-Ok.more.bytes.now (kept_lines (left c.in-Ok.more)) c.in-Err-read_next.e
    c.in-Ok.ensures.first c.in-Err-read_next.ensures.read c.lines.invariant

pub returns-in-Err : goal.returns-in-Err
returns-in-Err c =
    reading_ended c.args.kind (view.known c.args.known.now) c.args.name.now c.args.reader (kept_lines (left c.args.lines)) c.lines.reader (kept_lines (left c.lines.left)) c.lines.left.bytes.now
    c.in-Err.none.number c.in-Err.ensures.first c.lines.invariant
