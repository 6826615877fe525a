use Rattle.std.proofs.Common.{◌≡◌, map, take}
use Rattle.sx_rules.specs.Views.{named}
use Rattle.sx_rules.proofs.copying.copy_rules.Given as goal

abbrev pub invariant-loop-i : goal.invariant-loop-i
invariant-loop-i l = map named l.copies.items ≡ map named (take l.i l.rules)
