use Rattle.std.proofs.Common.{◌≡◌, map, take}
use Rattle.sx_interface.specs.InterfaceView.{mark_view}
use Rattle.sx_unit.specs.Modules.{mark}
use Rattle.sx_unit.proofs.texts.import_marks.Given as goal

abbrev pub invariant-loop-i : goal.invariant-loop-i
invariant-loop-i l = map mark_view l.marks.items ≡ map mark (take l.i l.imports)
