use Rattle.std.proofs.Common.{◌≡◌, take}
use Rattle.sx_plain.proofs.make_entry.copy_uses.Given as goal

abbrev pub invariant-loop-part : goal.invariant-loop-part
invariant-loop-part l = l.copies.items ≡ take l.part-index l.uses
