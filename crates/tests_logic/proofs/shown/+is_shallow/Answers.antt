use Rattle.std.proofs.Common.{ap, arith}
use Rattle.std.proofs.lemmas.List.{drop_all}
use Rattle.sx_rules.specs.Derivations.{height_of, most_height}
use Rattle.sx_rules.specs.ProofView as view
use Rattle.sx_rules.proofs.ProofRows.{proof-at_by}
use Rattle.sx_audit.proofs.ProofNodes.{boxed-on}
use Rattle.tests_logic.proofs.shown.+is_shallow.Goals as goal

pub loop-kid-preserved : goal.loop-kid-preserved
loop-kid-preserved t c rest =
    let here = c.is_shallow.ensures c.if-not-is_shallow.false in
    let on = ap most_height
    (boxed-on _ _ _ _ c.loop-kid-test.true c.kid-item.is c.deref.ensures) in
    c.loop-kid.invariant (omega (arith, here, on, rest))

pub returns-after-loop-kid : goal.returns-after-loop-kid
returns-after-loop-kid t c found =
    let none = ap (λ x. most_height (view.boxed x)) (drop_all _ _ c.loop-kid-test.false) in
    let kids = c.loop-kid.invariant (omega (arith, none)) in
    let row = ap (λ x. most_height (view.boxed x)) c.deref-kid-items.ensures.value in
    let whole = ap height_of (proof-at_by _ _ _ _ c.in-By.is) in
    omega (arith, kids, row, whole, c.if-levels-eq0.false)
