use Rattle.std.proofs.Common.{◌≡◌, map, take}
use Rattle.sx_notation.specs.RuleParts.{symbol_for}
use Rattle.sx_notation.proofs.rule_productions.form_production.Given as goal

abbrev pub invariant-loop-i : goal.invariant-loop-i
invariant-loop-i l = l.symbols.items ≡ map symbol_for (take l.i l.form.symbols.items)
