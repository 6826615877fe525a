use Rattle.sx_lines.proofs.WriteLaws.{on_ok}
use Rattle.sx_interface.proofs.WrittenLaws.{three_rows}
use Rattle.sx_interface.proofs.interface_writing.put_front.Goals as goal

pub returns-clause-ok : goal.returns-clause-ok
returns-clause-ok c =
    let module_row = rw c.bytes.ensures.value at c.in_ok-put_row-2.ensures.ok in
    let language_row = rw c.bytes-2.ensures.value at c.put_mark.ensures.ok in
    on_ok _ _ c.put_mark.result
    (λ last. three_rows c.args.into.now.items _ _ _ c.put_row.new.into.items c.put_row-2.new.into.items c.put_mark.new.into.items c.in_ok-put_row.ensures.ok module_row last)
    language_row
