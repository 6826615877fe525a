use Rattle.std.proofs.Common.{◌≡◌, ◌≤◌, take}
use Rattle.sx_core.specs.Stated.{subject_count}
use Rattle.sx_core.proofs.resolved.subject_count.Given as goal

abbrev pub invariant-loop-i : goal.invariant-loop-i
invariant-loop-i l = record {
  is : l.count ≡ subject_count (take l.i l.places);
  few : l.count ≤ l.i;
}
