use Rattle.std.proofs.Common.{◌≡◌, ◌-◌, ◌<◌, ◌≤◌, ℕ, Some, length}
use Rattle.std.specs.List.{slice_get}
use Rattle.sx_forest.specs.declared.entry.Entry.{Entry}
use Rattle.sx_forest.proofs.ends.index_at.Given as goal

abbrev pub invariant-loop-low : goal.invariant-loop-low
invariant-loop-low l = record {
  first : 1 ≤ l.low;
  along : l.low ≤ l.high;
  last : l.high ≤ length l.entries;
  before : (i : ℕ) (e : Entry) → 1 ≤ i → i < l.low → slice_get l.entries i ≡ Some e → e.to < l.place;
  after : (i : ℕ) (e : Entry) → l.high ≤ i → slice_get l.entries i ≡ Some e → l.place ≤ e.to;
}

abbrev pub decreases-loop-low : goal.decreases-loop-low
decreases-loop-low l = l.high - l.low
