use Rattle.std.proofs.Common.{◌≡◌, ◌++◌, drop}
use Rattle.sx_rules.specs.EntryView.{entries}
use Rattle.sx_rules.specs.Orders.{order_of, order_of_all}
use Rattle.sx_derive.specs.Chains.{head_proof}
use Rattle.sx_derive.specs.Listing.{head_kids}
use Rattle.sx_derive.specs.Store.{store_envs, store_kids}
use Rattle.sx_derive.proofs.HeadLists.{row_at}
use Rattle.sx_derive.proofs.export_list.+put_list.Given as goal

abbrev pub decreases-put_list : goal.decreases-put_list
decreases-put_list l = head_kids l.head

abbrev pub invariant-loop-kid : goal.invariant-loop-kid
invariant-loop-kid l =
    entries l.into.items ++ order_of_all (row_at (store_envs l.store) (store_kids l.store) (drop l.kid-index l.kid-items)) ≡ entries l.fn.into.items ++ order_of (head_proof (store_envs l.store) (store_kids l.store) l.fn.head)
