use Rattle.std.proofs.Common.{◌≡◌, drop, length}
use Rattle.sx_grammar.specs.Levels.{greatest_after}
use Rattle.sx_grammar.proofs.levels.raise_all.Given as goal

abbrev pub invariant-loop-production : goal.invariant-loop-production
invariant-loop-production l = record {
  size : length l.levels ≡ length l.fn.levels;
  same : greatest_after l.levels (drop l.production-index l.productions) ≡ greatest_after l.fn.levels l.productions;
}
