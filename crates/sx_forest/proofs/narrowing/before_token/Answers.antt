use Rattle.std.proofs.Common.{arith}
use Rattle.sx_forest.specs.declared.stretch.Stretch.{Stretch}
use Rattle.sx_forest.proofs.Leading.{no_way_outside}
use Rattle.sx_forest.proofs.narrowing.before_token.Goals as goal

pub returns : goal.returns
returns c = λ place low out.
    let s : Stretch = record { first = c.limited.result; end = c.limited-2.result } in
    no_way_outside c.args.next.now c.args.to place s
    (omega (arith, c.limited.ensures, c.saturating_sub-first.ensures, c.saturating_sub.ensures, c.len.ensures))
    (omega (arith, c.limited-2.ensures, c.saturating_sub-2.ensures)) low out
