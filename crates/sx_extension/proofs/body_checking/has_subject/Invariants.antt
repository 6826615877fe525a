use Rattle.std.proofs.Common.{◌≡◌, drop}
use Rattle.sx_extension.proofs.Subjected.{subjected}
use Rattle.sx_extension.proofs.body_checking.has_subject.Given as goal

abbrev pub invariant-loop-i : goal.invariant-loop-i
invariant-loop-i l = subjected (drop l.i l.places) ≡ subjected l.places
