use Rattle.sx_lines.specs.Reading.{BeginsWith}
use Rattle.sx_lines.proofs.WriteLaws.{begins_on, on_err}
use Rattle.sx_rules.proofs.list_writing.put_lines.Goals as goal

pub returns-in_err-put_line-clause-err : goal.returns-in_err-put_line-clause-err
returns-in_err-put_line-clause-err c =
    on_err (BeginsWith c.put_line.new.into.items c.args.into.now.items) _
    (begins_on _ _ c.loop-entry.into.items c.put_line.new.into.items c.loop-entry.invariant c.in_err-put_line.ensures.err)
