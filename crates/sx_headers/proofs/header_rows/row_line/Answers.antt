use Rattle.std.proofs.Common.{◌≡◌, ◌-◌, ap, ◌∙◌, arith}
use Rattle.sx_lines.specs.Lines.{Lines}
use Rattle.sx_lines.specs.Left.{left}
use Rattle.sx_lines.specs.Reading.{kept}
use Rattle.sx_headers.specs.HeaderRows.{number_at}
use Rattle.sx_headers.proofs.HeaderLines.{number_past, number_here, number_next}
use Rattle.sx_headers.proofs.header_rows.row_line.Goals as goal

pub loop-init : goal.loop-init
loop-init c =
    let none : c.args.row - 0 ≡ c.args.row = omega arith in
    ap (number_at (kept (left c.all-rest.result))) none
    ∙ ap (λ (l : Lines). number_at (kept l) c.args.row) c.all-rest.ensures.lines

pub returns-in-Err : goal.returns-in-Err
returns-in-Err c =
    number_past (kept (left c.loop.rest)) c.in-Err.e.number (c.args.row - c.loop.counter)
    c.in-Err.ensures.first
    ∙ c.loop.invariant

pub loop-preserved : goal.loop-preserved
loop-preserved c =
    number_next (kept (left c.loop.rest)) (kept (left c.in-Ok.more)) _ c.args.row c.loop.counter _ _
    c.in-Ok.ensures.first
    c.loop-test.true ∙ c.loop.invariant

pub returns-in-Ok-next_kept : goal.returns-in-Ok-next_kept
returns-in-Ok-next_kept c =
    let end = c.loop.auto.counter-end in
    number_here (kept (left c.loop.rest)) (kept (left c.in-Ok-next_kept.field-0-1))
    c.in-Ok-next_kept.line.number
    (c.args.row - c.loop.counter) _ _ c.in-Ok-next_kept.ensures.first
    (omega (arith, c.loop-test.false)) ∙ c.loop.invariant

pub returns-in-Err-next_kept : goal.returns-in-Err-next_kept
returns-in-Err-next_kept c =
    number_past (kept (left c.loop.rest)) c.in-Err-next_kept.e.number (c.args.row - c.loop.counter)
    c.in-Err-next_kept.ensures.first ∙ c.loop.invariant
