use Rattle.std.proofs.Common.{map}
use Rattle.std.specs.Prelude.{option_map}
use Rattle.sx_term.specs.Term.{tree}
use Rattle.sx_rules.specs.Views as view
use Rattle.sx_language.specs.Readers.{reader}
use Rattle.sx_language.proofs.Ruling.{Before}
use Rattle.sx_language.proofs.rules_reading.read_each.Given as goal

abbrev pub invariant-loop-i : goal.invariant-loop-i
invariant-loop-i l = Before (reader l.by) l.lines l.i l.names.items (map view.named l.rules.items) (map (option_map tree) l.bodies.items)
