use Rattle.std.proofs.Common.{◌≡◌, ◌++◌, map, drop}
use Rattle.sx_grammar.specs.Parts.{texts, parts, names}
use Rattle.sx_grammar.proofs.standing.names.Given as goal

abbrev pub invariant-loop-sort : goal.invariant-loop-sort
invariant-loop-sort l = texts l.out.items ++ map (λ s. s.name) (drop l.sort-index l.from.sorts.items) ≡ names (parts l.from)
