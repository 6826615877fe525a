use Rattle.std.proofs.Common.{◌≡◌, ◌++◌, take}
use Rattle.sx_lines.specs.Reading.{written}
use Rattle.sx_interface.specs.Interfaces.{mark_lines}
use Rattle.sx_interface.specs.InterfaceView.{marks_view}
use Rattle.sx_interface.proofs.interface_writing.put_marks.Given as goal

abbrev pub invariant-loop-mark : goal.invariant-loop-mark
invariant-loop-mark l = l.into.items ≡ l.fn.into.items ++ written (mark_lines l.front (marks_view (take l.mark-index l.marks)))
