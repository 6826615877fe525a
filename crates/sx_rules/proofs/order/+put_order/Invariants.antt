use Rattle.std.proofs.Common.{◌≡◌, ◌++◌, drop}
use Rattle.sx_rules.specs.Orders.{order_of, order_of_all}
use Rattle.sx_rules.specs.ProofView as view
use Rattle.sx_rules.specs.EntryView.{entries}
use Rattle.sx_rules.proofs.order.+put_order.Given as goal

abbrev pub invariant-loop-kid : goal.invariant-loop-kid
invariant-loop-kid l = entries l.into.items ++ order_of_all (view.boxed (drop l.kid-index l.kid-items)) ≡ entries l.fn.into.items ++ order_of (view.proof l.proof)
