use Rattle.std.proofs.Common.{◌+◌, ◌-◌, ◌*◌, ◌≤◌, length}
use Rattle.sx_expand.specs.Listed.{set_in, entries_in}
use Rattle.sx_expand.proofs.ListTallies.{Sizing, Basing}
use Rattle.sx_expand.proofs.tallying.+tallied.Given as goal

abbrev pub decreases-tally : goal.decreases-tally
decreases-tally l = 3 * (length l.listing.now.list.now - l.at)

abbrev pub decreases-certificate_tally : goal.decreases-certificate_tally
decreases-certificate_tally l = 3 * (length l.listing.now.list.now - l.first) + 2

abbrev pub decreases-base_tally : goal.decreases-base_tally
decreases-base_tally l = 3 * (length l.listing.now.list.now - l.first) + 2

abbrev pub decreases-with_kid : goal.decreases-with_kid
decreases-with_kid l = 3 * (length l.listing.now.list.now - l.at) + 1

abbrev pub invariant-certificate_tally-loop-given : goal.invariant-certificate_tally-loop-given
invariant-certificate_tally-loop-given l = record {
  sizing : Sizing (set_in l.listing) (entries_in l.listing) l.size l.first l.at l.given-index l.all;
  on : l.first ≤ l.at;
}

abbrev pub invariant-base_tally-loop-at : goal.invariant-base_tally-loop-at
invariant-base_tally-loop-at l = record {
  basing : Basing (set_in l.listing) (entries_in l.listing) l.first l.end l.at l.all;
  on : l.first ≤ l.at;
}

abbrev pub decreases-base_tally-loop-at : goal.decreases-base_tally-loop-at
decreases-base_tally-loop-at l = l.end - l.at
