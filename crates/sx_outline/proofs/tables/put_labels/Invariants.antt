use Rattle.std.proofs.Common.{map, take}
use Rattle.sx_grammar.specs.declared.production.Production.{Production}
use Rattle.sx_outline.specs.Tables.{ArePlaces}
use Rattle.sx_outline.proofs.tables.put_labels.Given as goal

abbrev pub invariant-loop-i : goal.invariant-loop-i
invariant-loop-i l = ArePlaces (map (λ (p : Production). p.label) (take l.i l.productions)) l.places
