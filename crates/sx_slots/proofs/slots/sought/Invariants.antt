use Rattle.std.proofs.Common.{ℕ, List, ◌≤◌, length}
use Rattle.sx_slots.specs.Slots.{slot_of, IsLast, AreLinked}
use Rattle.sx_slots.proofs.Linking.{Seeking}
use Rattle.sx_slots.proofs.slots.sought.Given as goal

abbrev pub invariant-loop-here : goal.invariant-loop-here
invariant-loop-here l = record {
  within : l.here ≤ length l.hashes;
  seeking : (n k : ℕ) (lasts : List ℕ) → k ≤ length l.hashes → AreLinked n l.hashes l.links lasts (length l.hashes) → IsLast n l.hashes k (slot_of n l.hash) l.initial.from → Seeking n l.hashes k l.hash l.here;
}

abbrev pub decreases-loop-here : goal.decreases-loop-here
decreases-loop-here l = l.here
