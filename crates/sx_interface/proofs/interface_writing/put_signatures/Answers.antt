use Rattle.sx_lines.proofs.WriteLaws.{on_ok}
use Rattle.sx_interface.proofs.WrittenLaws.{three_rows}
use Rattle.sx_interface.proofs.interface_writing.put_signatures.Goals as goal

pub returns-clause-ok : goal.returns-clause-ok
returns-clause-ok c =
    let signature_row = rw c.bytes.ensures.value at c.in_ok-put_row-2.ensures.ok in
    let stated_row = rw c.bytes-2.ensures.value at c.put_row-3.ensures.ok in
    on_ok _ _ c.put_row-3.result
    (λ last. three_rows c.args.into.now.items _ _ _ c.put_row.new.into.items c.put_row-2.new.into.items c.put_row-3.new.into.items c.in_ok-put_row.ensures.ok signature_row last)
    stated_row
