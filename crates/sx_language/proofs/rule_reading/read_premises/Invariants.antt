use Rattle.std.proofs.Common.{map}
use Rattle.sx_rules.specs.Views as view
use Rattle.sx_language.specs.Readers.{reader}
use Rattle.sx_language.proofs.Premising.{Before}
use Rattle.sx_language.proofs.rule_reading.read_premises.Given as goal

abbrev pub invariant-loop-i : goal.invariant-loop-i
invariant-loop-i l = Before (reader l.by) l.lines l.i l.vars (map view.premise l.premises.items)
