use Rattle.sx_interface.specs.InterfaceView.{interface_view}
use Rattle.sx_interface.proofs.WrittenLaws.{digest_parts}
use Rattle.sx_lines.proofs.WriteLaws.{on_ok}
use Rattle.sx_interface.proofs.interface_writing.put_digests.Goals as goal

pub returns-clause-ok : goal.returns-clause-ok
returns-clause-ok c =
    let uses = rw c.as_slice.ensures.value at c.in_ok-put_marks.ensures.ok in
    let imports = rw c.as_slice-2.ensures.value at c.put_marks-2.ensures.ok in
    on_ok _ _ c.put_marks-2.result
    (λ last. digest_parts (interface_view c.args.it.now) c.args.into.now.items c.put_marks.new.into.items c.put_digest.new.into.items c.put_marks-2.new.into.items uses c.in_ok-put_digest.ensures.ok last)
    imports
