use Rattle.std.proofs.Common.{ℕ, ◌≤◌, arith, refl}
use Rattle.std.specs.Prelude.{slice_index_or}
use Rattle.sx_grammar.proofs.Climbing.{each_more, each_all}
use Rattle.sx_grammar.proofs.rising.all_from.Goals as goal

pub loop-sort-preserved : goal.loop-sort-preserved
loop-sort-preserved c =
    each_more (λ (x : ℕ). c.args.least ≤ slice_index_or c.args.numbers.now x 0) c.args.sorts.now c.loop-sort.sort-index c.loop-sort.invariant (omega (arith, c.if-number_of-least.false, c.number_of.ensures))

pub returns : goal.returns
returns c = (λ _. each_all (λ (x : ℕ). c.args.least ≤ slice_index_or c.args.numbers.now x 0) c.args.sorts.now c.loop-sort.sort-index c.loop-sort-test.false c.loop-sort.invariant, λ _. refl)
