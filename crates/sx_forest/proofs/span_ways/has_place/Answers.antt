use Rattle.std.proofs.Common.{inl, inr, arith}
use Rattle.std.proofs.lemmas.Bool.{cases_lt}
use Rattle.sx_forest.proofs.Wider.{no_stretch}
use Rattle.sx_forest.proofs.span_ways.has_place.Goals as goal

pub returns : goal.returns
returns c = λ dot some is.
    let filled = c.args.kept.now.stretches.ok in let end = c.len-dot-end.ensures in let done = c.loop-dot-test.false in
    elim (cases_lt dot c.loop-dot.dot) [
      | inl low ↦ absurd (c.loop-dot.invariant dot some low is)
      | inr high ↦ absurd (no_stretch c.args.kept.now.stretches.items dot c.args.place (omega (arith, filled, end, done, high)) is)
    ]
