use Rattle.std.proofs.Common.{◌≡◌, map, take}
use Rattle.sx_grammar.specs.Parts.{line}
use Rattle.sx_grammar.proofs.grammar_parts.fill_productions.Given as goal

abbrev pub invariant-loop-i : goal.invariant-loop-i
invariant-loop-i l = map line l.copies.items ≡ map line (take l.i l.productions)
