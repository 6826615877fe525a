use Rattle.std.proofs.Common.{◌≡◌, map, take}
use Rattle.sx_term.specs.Term.{tree}
use Rattle.sx_plain.specs.Plain.{image}
use Rattle.sx_plain.specs.Views.{table_of}
use Rattle.sx_rewrite.proofs.plain_rule.plain_terms.Given as goal

abbrev pub invariant-loop-term : goal.invariant-loop-term
invariant-loop-term l = map tree l.plain.items ≡ map (image (table_of l.table)) (map tree (take l.term-index l.terms))
