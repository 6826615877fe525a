use Rattle.sx_derive.specs.Store.{store_envs, store_kids}
use Rattle.sx_derive.proofs.HeadLists.{Heading}
use Rattle.sx_derive.proofs.export_list.heads_of.Given as goal

abbrev pub invariant-loop-here : goal.invariant-loop-here
invariant-loop-here l = Heading (store_envs l.store) (store_kids l.store) l.kids l.here l.heads.items

abbrev pub decreases-loop-here : goal.decreases-loop-here
decreases-loop-here l = l.here
