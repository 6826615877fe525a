use Rattle.std.proofs.Common.{arith, refl}
use Rattle.sx_grammar.proofs.Ranking.{list_within}
use Rattle.sx_grammar.proofs.rising.never_falls.Goals as goal

pub returns : goal.returns
returns c = (
  λ is sort other has.
      let low = list_within c.args.steps.now sort other has in
      c.loop-sort.invariant sort (omega (arith, low, c.loop-sort-test.false)) other has,
  λ never. refl,
)
