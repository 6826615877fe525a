use Rattle.std.proofs.Common.{refl, arith}
use Rattle.sx_extension.proofs.NamesCopied.{once, one_name}
use Rattle.sx_extension.proofs.numbered_names.part_names.Goals as goal

pub loop-i-preserved : goal.loop-i-preserved
loop-i-preserved c =
    one_name c.args.names.now c.loop-i.vars c.add_copy.new.self c.loop-i.i c.index-names-i.result c.index-names-i.result c.in_ok-add_copy.field-0 (once c.args.names.now c.requires) c.loop-i.invariant (omega arith)
    c.index-names-i.is refl c.in_ok-add_copy.ensures.ok
