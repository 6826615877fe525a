use Rattle.std.proofs.Common.{◌≡◌, ◌≤◌, length, map}
use Rattle.sx_slots.specs.Slots.{AreLinked}
use Rattle.sx_earley.specs.PackedItem.{packed_hash}
use Rattle.sx_earley.proofs.item_set.grow.Given as goal

abbrev pub invariant-loop-number : goal.invariant-loop-number
invariant-loop-number l = record {
  within : l.number ≤ length l.items;
  many : length l.links ≡ length l.items;
  slots : length l.wider.items ≡ l.slots;
  linked : AreLinked l.slots (map packed_hash l.items) l.links l.wider.items l.number;
}
