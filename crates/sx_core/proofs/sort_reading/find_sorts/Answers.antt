use Rattle.sx_lines.specs.Left.{left as left_of}
use Rattle.sx_lines.specs.Reading.{kept}
use Rattle.sx_core.proofs.FindLaws.{find_more, all_found}
use Rattle.sx_core.proofs.sort_reading.find_sorts.Goals as goal

pub lines-preserved : goal.lines-preserved
lines-preserved c =
    find_more (kept (left_of c.args.rest)) c.lines.table c.find_sort.new.table (kept (left_of c.lines.left)) (kept (left_of c.in-Ok.more)) c.in-Ok.line.number c.in-Ok.line.text.now c.in-Ok.more.bytes.now
    c.lines.invariant c.in-Ok.ensures.first c.in_ok-find_sort-in-Ok.ensures

pub returns-in-Err : goal.returns-in-Err
returns-in-Err c =
    all_found (kept (left_of c.args.rest)) c.lines.table (kept (left_of c.lines.left)) c.in-Err.field-0.number c.numbered.result c.lines.invariant c.in-Err.ensures.first c.numbered.ensures
