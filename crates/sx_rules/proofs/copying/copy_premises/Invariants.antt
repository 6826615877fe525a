use Rattle.std.proofs.Common.{◌≡◌, map, take}
use Rattle.sx_rules.specs.Views.{premise}
use Rattle.sx_rules.proofs.copying.copy_premises.Given as goal

abbrev pub invariant-loop-i : goal.invariant-loop-i
invariant-loop-i l = map premise l.copies.items ≡ map premise (take l.i l.premises)
