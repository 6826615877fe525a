use Rattle.std.proofs.Common.{arith}
use Rattle.sx_print.proofs.Adding.{dropped, nothing}
use Rattle.sx_print.proofs.writing.drop_last_blank.Goals as goal

pub returns-then-end-start : goal.returns-then-end-start
returns-then-end-start c tokens before long is =
    dropped tokens before c.args.into.now.items _ c.len-end.result is (omega (arith, long, c.len-end.ensures, c.if-end-start.true)) (omega arith) c.truncate.ensures.items

pub returns-else-end-start : goal.returns-else-end-start
returns-else-end-start c tokens before long is = nothing tokens before c.args.into.now.items is (omega (arith, long, c.len-end.ensures, c.if-end-start.false))
