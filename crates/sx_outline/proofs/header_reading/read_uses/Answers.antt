use Rattle.sx_lines.specs.Left.{left}
use Rattle.sx_outline.specs.Known.{kept_lines}
use Rattle.sx_outline.proofs.HeaderLaws.{using_begin, using_over, using_more, using_ends, using_refused}
use Rattle.sx_outline.proofs.header_reading.read_uses.Goals as goal

pub lines-init : goal.lines-init
lines-init c = (c.new-uses.ensures.found, using_begin (kept_lines (left c.args.rest)) c.new-uses.result.names.items c.new-uses.ensures.none, λ u. u)

pub lines-preserved : goal.lines-preserved
lines-preserved c = (
  c.in-Ok-true.ensures.found,
  using_more (kept_lines (left c.args.rest)) (kept_lines (left c.lines.left)) (kept_lines (left c.in-Ok.more)) c.lines.uses.names.items c.use_line.new.uses.names.items
      c.in-Ok.line.number c.in-Ok.line.text.now c.in-Ok.more.bytes.now c.in-Ok-true.field-0 c.lines.invariant.1 c.in-Ok.ensures.first c.in-Ok-true.ensures.read c.in-Ok-true.field-0-test,
  λ u. (c.in-Ok.ensures.utf8 (c.lines.invariant.2 u)).1,
)

pub returns-in-Ok-false-clause-read : goal.returns-in-Ok-false-clause-read
returns-in-Ok-false-clause-read c =
    using_ends (kept_lines (left c.args.rest)) (kept_lines (left c.lines.left)) (kept_lines (left c.in-Ok.more)) c.lines.uses.names.items c.use_line.new.uses.names.items c.into_names.result.items
    c.in-Ok.line.number c.in-Ok.line.text.now c.in-Ok.more.bytes.now c.in-Ok-false.field-0 c.lines.invariant.1 c.in-Ok.ensures.first c.in-Ok-false.ensures.read c.in-Ok-false.field-0-test c.into_names.ensures

pub returns-in-Err-use_line-clause-read : goal.returns-in-Err-use_line-clause-read
returns-in-Err-use_line-clause-read c =
    using_refused (kept_lines (left c.args.rest)) (kept_lines (left c.lines.left)) (kept_lines (left c.in-Ok.more)) c.lines.uses.names.items
    c.in-Ok.line.number c.in-Ok.line.text.now c.in-Ok.more.bytes.now c.in-Err-use_line.e c.lines.invariant.1 c.in-Ok.ensures.first c.in-Err-use_line.ensures.read

pub returns-in-Err-clause-read : goal.returns-in-Err-clause-read
returns-in-Err-clause-read c =
    using_over (kept_lines (left c.args.rest)) c.lines.uses.names.items c.into_names-in-Err.result.items (kept_lines (left c.lines.left)) c.in-Err.field-0.number c.lines.invariant.1 c.in-Err.ensures.first c.into_names-in-Err.ensures
