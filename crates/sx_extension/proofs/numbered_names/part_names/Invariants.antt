use Rattle.std.proofs.Common.{◌≡◌, take}
use Rattle.sx_extension.proofs.numbered_names.part_names.Given as goal

abbrev pub invariant-loop-i : goal.invariant-loop-i
invariant-loop-i l = l.vars ≡ take l.i l.names
