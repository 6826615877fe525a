use Rattle.std.proofs.Common.{◌≡◌, ◌+◌, ◌≤◌, drop}
use Rattle.sx_typing.specs.Spots.{feeds_in, behind_feed}
use Rattle.sx_typing.proofs.spots.spot_of.Given as goal

abbrev pub invariant-loop-b : goal.invariant-loop-b
invariant-loop-b l = record {
  few : (l.feeds ≤ l.b-index) × (l.behind ≤ l.b-index);
  lines : l.feeds + feeds_in (drop l.b-index l.before) ≡ feeds_in l.before;
  columns : behind_feed l.behind (drop l.b-index l.before) ≡ behind_feed 0 l.before;
}
