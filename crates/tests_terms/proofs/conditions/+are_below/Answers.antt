use Rattle.std.proofs.Common.{refl}
use Rattle.tests_terms.proofs.FitLaws.{below-kid, below-node}
use Rattle.tests_terms.proofs.conditions.+are_below.Goals as goal

pub loop-kid-preserved : goal.loop-kid-preserved
loop-kid-preserved t c = below-kid c.args.arity _ _ _ c.loop-kid-test.true c.kid-item.is (c.if-not-are_below.ensures refl) c.loop-kid.invariant

pub returns-after-loop-kid : goal.returns-after-loop-kid
returns-after-loop-kid t c = λ _. below-node c.args.arity _ _ _ _ _ c.in-Node.is c.deref-kid-items.ensures.value c.loop-kid-test.false c.loop-kid.invariant
