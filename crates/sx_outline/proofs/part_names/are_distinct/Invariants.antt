use Rattle.std.proofs.Common.{take}
use Rattle.sx_lines.specs.Distinct.{AreTextsDistinct}
use Rattle.sx_outline.specs.Tables.{ArePlaces}
use Rattle.sx_outline.proofs.part_names.are_distinct.Given as goal

abbrev pub invariant-loop-i : goal.invariant-loop-i
invariant-loop-i l = ArePlaces (take l.i l.names) l.places × AreTextsDistinct (take l.i l.names)
