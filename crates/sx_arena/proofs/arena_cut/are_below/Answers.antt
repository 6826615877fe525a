use Rattle.std.proofs.Common.{◌≡◌, true, false, refl}
use Rattle.sx_arena.proofs.Kept.{below_more_of, below_all, not_below}
use Rattle.sx_arena.proofs.arena_cut.are_below.Goals as goal

pub returns-then-number-bound : goal.returns-then-number-bound
returns-then-number-bound c =
    ((λ e. let q : false ≡ true = e in absurd (let z : ⊥ = cc in z)), (λ h. absurd (not_below c.args.bound c.args.numbers.now c.loop-number.number-index c.loop-number-test.true c.if-number-bound.true h)))

pub loop-number-preserved : goal.loop-number-preserved
loop-number-preserved c = below_more_of c.args.bound c.args.numbers.now c.loop-number.number-index c.loop-number-test.true c.loop-number.invariant c.if-number-bound.false

pub returns : goal.returns
returns c = (λ e. below_all c.args.bound c.args.numbers.now c.loop-number.number-index c.loop-number-test.false c.loop-number.invariant, λ h. refl)
