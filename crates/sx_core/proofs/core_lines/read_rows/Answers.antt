use Rattle.sx_lines.specs.Left.{left as left_of}
use Rattle.sx_lines.specs.Reading.{kept}
use Rattle.sx_core.specs.Resolving.{rows_in}
use Rattle.sx_core.proofs.LoopLaws.{stand_begin, stand_more, stand_refused, stand_end, stand_shallow}
use Rattle.sx_core.proofs.core_lines.read_rows.Goals as goal

pub lines-init : goal.lines-init
lines-init c = stand_begin c.args.sorts (kept (left_of c.args.rest)) c.in_ok-reader.reader c.requires.table c.in_ok-reader.ensures

pub lines-preserved : goal.lines-preserved
lines-preserved c =
    stand_more (rows_in c.args.sorts) (kept (left_of c.args.rest)) c.lines.reader c.in-Ok-read_next.next (kept (left_of c.lines.left)) (kept (left_of c.in-Ok.more)) c.in-Ok.line.number c.in-Ok.line.text.now c.in-Ok.more.bytes.now
    c.lines.invariant c.in-Ok.ensures.first c.in-Ok-read_next.ensures

pub returns-in-Err-read_next : goal.returns-in-Err-read_next
returns-in-Err-read_next c =
    stand_refused (rows_in c.args.sorts) (kept (left_of c.args.rest)) c.lines.reader (kept (left_of c.lines.left)) (kept (left_of c.in-Ok.more)) c.in-Ok.line.number c.in-Ok.line.text.now c.in-Ok.more.bytes.now c.in-Err-read_next.e
    c.lines.invariant c.in-Ok.ensures.first c.requires.all c.in-Err-read_next.ensures

pub finish-requires : goal.finish-requires
finish-requires c = stand_shallow (rows_in c.args.sorts) (kept (left_of c.args.rest)) c.lines.reader (kept (left_of c.lines.left)) c.lines.invariant

pub returns-in-Err : goal.returns-in-Err
returns-in-Err c =
    stand_end (rows_in c.args.sorts) (kept (left_of c.args.rest)) c.lines.reader (kept (left_of c.lines.left)) c.in-Err.none.number c.finish.result
    c.lines.invariant c.in-Err.ensures.first c.requires.all c.requires.named c.finish.ensures
