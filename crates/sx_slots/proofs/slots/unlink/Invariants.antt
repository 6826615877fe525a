use Rattle.std.proofs.Common.{◌≡◌, ◌≤◌, min, length}
use Rattle.sx_slots.specs.Slots.{AreLinked}
use Rattle.sx_slots.proofs.slots.unlink.Given as goal

abbrev pub invariant-loop-number : goal.invariant-loop-number
invariant-loop-number l = record {
  least : min l.many (length l.hashes) ≤ l.number;
  within : l.number ≤ length l.hashes;
  slots : length l.lasts ≡ length l.initial.lasts;
  linked : AreLinked (length l.initial.lasts) l.hashes l.links l.lasts l.number;
}

abbrev pub decreases-loop-number : goal.decreases-loop-number
decreases-loop-number l = l.number
