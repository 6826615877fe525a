use Rattle.std.proofs.Common.{refl}
use Rattle.sx_plain.specs.Views.{table_of}
use Rattle.tests_terms.proofs.FitLaws.{fits-kid, fits-node}
use Rattle.tests_terms.proofs.conditions.+fits.Goals as goal

pub loop-kid-preserved : goal.loop-kid-preserved
loop-kid-preserved t c = fits-kid (table_of c.args.table.now) _ _ _ c.loop-kid-test.true c.kid-item.is (c.if-not-fits.ensures refl) c.loop-kid.invariant

pub returns-after-loop-kid : goal.returns-after-loop-kid
returns-after-loop-kid t c = λ _.
    fits-node (table_of c.args.table.now) _ _ _ _ _ _ c.in-Node.is c.deref-kid-items.ensures.value c.deref.ensures.value c.loop-kid-test.false (c.if-not-has_parts.ensures refl) c.loop-kid.invariant
