use Rattle.sx_lines.specs.Left.{left}
use Rattle.sx_outline.specs.Known.{kept_lines}
use Rattle.sx_outline.specs.Tables.{declared_in}
use Rattle.sx_outline.proofs.PassLaws.{stand_begin, stand_row, stand_body, stand_ends, stand_over}
use Rattle.sx_outline.proofs.first_pass.read_rows.Goals as goal

pub lines-init : goal.lines-init
lines-init c = stand_begin c.args.kind (declared_in c.args.rows) (kept_lines (left c.args.lines))

pub returns-in-Ok-Nothing : goal.returns-in-Ok-Nothing
returns-in-Ok-Nothing c =
    stand_ends c.args.kind (declared_in c.args.rows) (kept_lines (left c.args.lines)) (kept_lines (left c.lines.left)) (kept_lines (left c.in-Ok.more)) c.in-Ok.line.number c.in-Ok.line.text.now c.in-Ok.more.bytes.now
    (declared_in c.lines.found) (declared_in c.take_line.new.rows) c.in-Ok-Nothing.field-0 c.lines.invariant c.in-Ok.ensures.first c.in-Ok-Nothing.ensures c.in-Ok-Nothing.field-0-is

pub lines-preserved-in-Ok-Body : goal.lines-preserved-in-Ok-Body
lines-preserved-in-Ok-Body c =
    stand_body c.args.kind (declared_in c.args.rows) (kept_lines (left c.args.lines)) (kept_lines (left c.lines.left)) (kept_lines (left c.in-Ok.more)) (kept_lines (left c.skip_line-left.result))
    c.in-Ok.line.number c.in-Ok.line.text.now c.in-Ok.more.bytes.now
    (declared_in c.lines.found) (declared_in c.take_line.new.rows) c.in-Ok-Body.field-0 c.lines.invariant c.in-Ok.ensures.first c.skip_line-left.ensures.skipped c.in-Ok-Body.ensures c.in-Ok-Body.field-0-is

pub lines-preserved : goal.lines-preserved
lines-preserved c =
    stand_row c.args.kind (declared_in c.args.rows) (kept_lines (left c.args.lines)) (kept_lines (left c.lines.left)) (kept_lines (left c.in-Ok.more)) c.in-Ok.line.number c.in-Ok.line.text.now c.in-Ok.more.bytes.now
    (declared_in c.lines.found) (declared_in c.take_line.new.rows) c.in-Ok-Row.field-0 c.lines.invariant c.in-Ok.ensures.first c.in-Ok-Row.ensures c.in-Ok-Row.field-0-is

pub returns-in-Err : goal.returns-in-Err
returns-in-Err c =
    stand_over c.args.kind (declared_in c.args.rows) (kept_lines (left c.args.lines)) (kept_lines (left c.lines.left)) c.in-Err.field-0.number
    (declared_in c.lines.found) c.lines.invariant c.in-Err.ensures.first
