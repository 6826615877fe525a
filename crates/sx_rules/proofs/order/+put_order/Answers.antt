use Rattle.std.proofs.Common.{rules}
use Rattle.sx_rules.specs.declared.proof.Proof.TheViews.{the_lemmas}
use Rattle.sx_rules.proofs.ProofRows.{height_of-kid, order-opens, order-on}
use Rattle.sx_rules.proofs.order.+put_order.Goals as goal

pub loop-kid-init : goal.loop-kid-init
loop-kid-init t c = order-opens _ _ _ _ _ c.in-By.is c.deref-kid-items.ensures.value _ _ c.in_ok-push-in-By.ensures.items

pub put_order-requires : goal.put_order-requires
put_order-requires t c =
    let k = height_of-kid _ _ _ _ _ c.in-By.is c.deref-kid-items.ensures.value _ _ _ c.loop-kid-test.true c.kid-item.is c.deref.ensures in
    search (rules, the_lemmas)

pub loop-kid-preserved : goal.loop-kid-preserved
loop-kid-preserved t c =
    order-on _ _ _ _ _ _ _ c.loop-kid-test.true c.kid-item.is c.deref.ensures c.in_ok-put_order-in-By.ensures c.loop-kid.invariant
