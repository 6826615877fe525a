use Rattle.std.proofs.Common.{refl}
use Rattle.sx_slots.specs.Slots.{slot_of}
use Rattle.sx_earley.proofs.item_set.slot.Goals as goal

pub returns-clause-value : goal.returns-clause-value
unfolding slot_of
returns-clause-value c = refl
