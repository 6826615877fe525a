use Rattle.std.proofs.Common.{◌≡◌, map, take}
use Rattle.sx_rules.specs.Views.{form}
use Rattle.sx_rules.proofs.copying.copy_forms.Given as goal

abbrev pub invariant-loop-i : goal.invariant-loop-i
invariant-loop-i l = map form l.copies.items ≡ map form (take l.i l.all)
