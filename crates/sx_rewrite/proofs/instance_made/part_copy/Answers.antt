use Rattle.std.proofs.Common.{arith}
use Rattle.sx_term.proofs.Kids.{greatest_depth-at}
use Rattle.sx_rewrite.proofs.Instanced.{no-part}
use Rattle.sx_rewrite.proofs.instance_made.part_copy.Goals as goal

pub copy-requires : goal.copy-requires
copy-requires c =
    let a = greatest_depth-at _ _ _ c.if-place-parts.true c.index-parts-place.is in
    let s = c.requires in
    omega (arith, a, s)

pub returns : goal.returns
returns c = no-part c.args.parts.now c.args.variable c.new.result c.new.ensures.items c.if-place-parts.false
