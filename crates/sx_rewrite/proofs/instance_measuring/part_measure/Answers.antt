use Rattle.std.proofs.Common.{arith}
use Rattle.sx_rewrite.proofs.Puts.{within-greatest}
use Rattle.sx_rewrite.proofs.instance_measuring.part_measure.Goals as goal

pub returns-then-place-parts-clause-small : goal.returns-then-place-parts-clause-small
returns-then-place-parts-clause-small c =
    let w = within-greatest c.args.parts.now c.args.variable (record { depth = 0; size = 0 }) c.if-place-parts.true in
    let r = c.requires in
    omega (arith, w, r)
