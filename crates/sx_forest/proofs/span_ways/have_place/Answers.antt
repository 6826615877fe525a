use Rattle.std.proofs.Common.{arith}
use Rattle.std.proofs.lemmas.Option.{slice_get_within}
use Rattle.sx_forest.proofs.span_ways.have_place.Goals as goal

pub returns : goal.returns
returns c = λ i k at none.
    let low = slice_get_within c.args.kept.now i k at in let end = c.loop-index-test.false in
    c.loop-index.invariant i k (omega arith) at
