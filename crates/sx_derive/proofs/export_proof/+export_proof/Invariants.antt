use Rattle.sx_derive.specs.Store.{store_kids}
use Rattle.sx_derive.specs.Listing.{head_kids}
use Rattle.sx_derive.proofs.Proved.{Proving}
use Rattle.sx_derive.proofs.export_proof.+export_proof.Given as goal

abbrev pub decreases-export_proof : goal.decreases-export_proof
decreases-export_proof l = head_kids l.head

abbrev pub invariant-loop-here : goal.invariant-loop-here
invariant-loop-here l = Proving (store_kids l.store) l.kids l.here l.proofs.items

abbrev pub decreases-loop-here : goal.decreases-loop-here
decreases-loop-here l = l.here
