use Rattle.sx_interface.specs.InterfaceView.{interface_view}
use Rattle.sx_interface.proofs.WrittenLaws.{all_parts}
use Rattle.sx_lines.proofs.WriteLaws.{on_ok}
use Rattle.sx_interface.proofs.interface_writing.put_lines.Goals as goal

pub returns-clause-ok : goal.returns-clause-ok
returns-clause-ok c =
    on_ok _ _ c.put_signatures.result
    (λ last. all_parts (interface_view c.args.it.now) c.args.into.now.items c.put_front.new.into.items c.put_digests.new.into.items c.put_signatures.new.into.items c.in_ok-put_front.ensures.ok c.in_ok-put_digests.ensures.ok last)
    c.put_signatures.ensures.ok
