use Rattle.std.proofs.Common.{◌≡◌, ◌++◌, map, drop}
use Rattle.sx_grammar.specs.Parts.{texts, line}
use Rattle.sx_grammar.specs.Standing.{labels_in}
use Rattle.sx_grammar.proofs.standing.labels.Given as goal

abbrev pub invariant-loop-production : goal.invariant-loop-production
invariant-loop-production l = texts l.out.items ++ labels_in (map line (drop l.production-index l.productions)) ≡ labels_in (map line l.productions)
