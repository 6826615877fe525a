use Rattle.std.proofs.Common.{take}
use Rattle.sx_outline.specs.Tables.{ArePlaces}
use Rattle.sx_outline.proofs.tables.put_uses.Given as goal

abbrev pub invariant-loop-i : goal.invariant-loop-i
invariant-loop-i l = ArePlaces (take l.i l.uses) l.places
