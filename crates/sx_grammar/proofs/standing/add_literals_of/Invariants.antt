use Rattle.std.proofs.Common.{◌≡◌, ◌++◌, map, drop}
use Rattle.std.specs.Prelude.{flat_map}
use Rattle.sx_grammar.specs.Parts.{texts, line, symbol_literals}
use Rattle.sx_grammar.proofs.standing.add_literals_of.Given as goal

abbrev pub invariant-loop-production : goal.invariant-loop-production
invariant-loop-production l = texts l.out.items ++ flat_map (λ r. flat_map symbol_literals r.symbols) (map line (drop l.production-index l.productions)) ≡ texts l.fn.out.items ++ flat_map (λ r. flat_map symbol_literals r.symbols) (map line l.productions)
