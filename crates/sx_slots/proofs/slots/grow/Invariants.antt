use Rattle.std.proofs.Common.{◌≡◌, ◌≤◌, length}
use Rattle.sx_slots.specs.Slots.{AreLinked}
use Rattle.sx_slots.proofs.slots.grow.Given as goal

abbrev pub invariant-loop-number : goal.invariant-loop-number
invariant-loop-number l = record {
  within : l.number ≤ length l.hashes;
  many : length l.links ≡ length l.hashes;
  slots : length l.wider.items ≡ l.slots;
  linked : AreLinked l.slots l.hashes l.links l.wider.items l.number;
}
