use Rattle.std.proofs.Common.{◌≡◌, map, take}
use Rattle.sx_interface.specs.InterfaceView.{mark_view}
use Rattle.sx_unit.proofs.texts.use_marks.Given as goal

abbrev pub invariant-loop-i : goal.invariant-loop-i
invariant-loop-i l = map mark_view l.marks.items ≡ map mark_view (take l.i l.uses)
