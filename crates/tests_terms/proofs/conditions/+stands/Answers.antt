use Rattle.std.proofs.Common.{true, false, ◌≡◌, refl}
use Rattle.tests_terms.proofs.FitLaws.{stands-found, stands-nowhere}
use Rattle.tests_terms.proofs.conditions.+stands.Goals as goal

pub returns-then-stands : goal.returns-then-stands
returns-then-stands t c = (λ e. stands-found _ _ _ _ _ _ _ c.in-Node.is c.deref-kid-items.ensures.value c.loop-kid.invariant c.loop-kid-test.true c.kid-item.is (c.if-stands.ensures.0 refl), λ h. refl)

pub returns-after-loop-kid : goal.returns-after-loop-kid
returns-after-loop-kid t c = (
  λ e. let f : false ≡ true = e in cc,
  λ h. absurd (stands-nowhere _ _ _ _ _ _ c.in-Node.is c.deref-kid-items.ensures.value c.loop-kid.invariant c.loop-kid-test.false h),
)
