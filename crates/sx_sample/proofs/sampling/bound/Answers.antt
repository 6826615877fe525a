use Rattle.std.proofs.Common.{◌≡◌, ◌==◌, false, sym, ap, ◌∙◌, rules, tests}
use Rattle.sx_sample.specs.Samples.{bound_of}
use Rattle.sx_sample.proofs.sampling.bound.Goals as goal

pub returns-then-number-eq1 : goal.returns-then-number-eq1
returns-then-number-eq1 c =
    c.in_ok-from_slice.ensures.items ∙ ap bound_of (sym c.if-number-eq1.true)

pub returns : goal.returns
returns c =
    let later : (c.args.number == 1) ≡ false = search (rules, tests) in rw later c.name.ensures
