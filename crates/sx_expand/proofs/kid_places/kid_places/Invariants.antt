use Rattle.std.proofs.Common.{◌-◌, ◌≤◌}
use Rattle.sx_expand.specs.Listed.{set_in, entries_in}
use Rattle.sx_expand.specs.Steps.{AreNotBelow}
use Rattle.sx_expand.proofs.Placing.{Placing}
use Rattle.sx_expand.proofs.kid_places.kid_places.Given as goal

abbrev pub invariant-loop-at : goal.invariant-loop-at
invariant-loop-at l = record {
  placing : Placing (set_in l.listing) (entries_in l.listing) l.first l.end l.at l.places.items;
  after : AreNotBelow l.first l.places.items;
  on : l.first ≤ l.at;
}

abbrev pub decreases-loop-at : goal.decreases-loop-at
decreases-loop-at l = l.end - l.at
