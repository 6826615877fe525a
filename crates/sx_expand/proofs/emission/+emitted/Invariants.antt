use Rattle.std.proofs.Common.{◌≡◌, ◌+◌, ◌-◌, ◌*◌, ◌≤◌, ◌++◌, drop, length}
use Rattle.sx_rules.specs.Derivations.{Proofs, height_of}
use Rattle.sx_rules.specs.EntryView.{entries}
use Rattle.sx_rules.specs.ProofView.{proof, boxed}
use Rattle.sx_expand.specs.Listed.{set_in, entries_in, StandInEach}
use Rattle.sx_expand.specs.LoweredOrders.{grafted_order, grafted_orders, lowered_orders}
use Rattle.sx_expand.proofs.Emitting.{Writing, most_left}
use Rattle.sx_expand.proofs.emission.+emitted.Given as goal

abbrev pub decreases-emit : goal.decreases-emit
decreases-emit l = (length l.listing.now.list.now - l.at) * 3003

abbrev pub decreases-emit_kids : goal.decreases-emit_kids
decreases-emit_kids l = (length l.listing.now.list.now - l.first) * 3003 + 1

abbrev pub decreases-emit_certificate : goal.decreases-emit_certificate
decreases-emit_certificate l = most_left (length l.listing.now.list.now) l.places.now * 3003 + height_of (proof l.certificate.now) + 1

abbrev pub invariant-emit_kids-loop-at : goal.invariant-emit_kids-loop-at
invariant-emit_kids-loop-at l = record {
  writing : Writing (set_in l.listing) (entries_in l.listing) l.first l.end l.at l.fn.into.items l.into.items;
  on : l.first ≤ l.at;
}

abbrev pub decreases-emit_kids-loop-at : goal.decreases-emit_kids-loop-at
decreases-emit_kids-loop-at l = l.end - l.at

abbrev pub invariant-emit_certificate-loop-kid : goal.invariant-emit_certificate-loop-kid
invariant-emit_certificate-loop-kid l = (ps : Proofs) → StandInEach l.listing l.places ps →
    entries l.into.items ++ grafted_orders (lowered_orders (set_in l.listing) ps) (boxed (drop l.kid-index l.kid-items)) ≡ entries l.fn.into.items ++ grafted_order (lowered_orders (set_in l.listing) ps) (proof l.certificate)
