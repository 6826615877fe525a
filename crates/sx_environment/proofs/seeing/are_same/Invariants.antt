use Rattle.std.proofs.Common.{◌≡◌, length, take}
use Rattle.sx_interface.specs.InterfaceView.{marks_view}
use Rattle.sx_environment.proofs.seeing.are_same.Given as goal

abbrev pub invariant-loop-i : goal.invariant-loop-i
invariant-loop-i l = record {
  long : length l.one ≡ length l.other;
  same : marks_view (take l.i l.one) ≡ marks_view (take l.i l.other);
}
