use Rattle.std.proofs.Common.{◌≡◌, ◌++◌, map, drop}
use Rattle.sx_grammar.specs.Parts.{texts, line}
use Rattle.sx_grammar.specs.Standing.{sorts_in}
use Rattle.sx_grammar.proofs.standing.sorts_named.Given as goal

abbrev pub invariant-loop-production : goal.invariant-loop-production
invariant-loop-production l = texts l.out.items ++ sorts_in (map line (drop l.production-index l.productions)) ≡ sorts_in (map line l.productions)
