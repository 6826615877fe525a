use Rattle.std.proofs.Common.{◌≡◌, drop, length}
use Rattle.sx_grammar.specs.Levels.{least_after}
use Rattle.sx_grammar.proofs.levels.lower_all.Given as goal

abbrev pub invariant-loop-production : goal.invariant-loop-production
invariant-loop-production l = record {
  size : length l.levels ≡ length l.fn.levels;
  same : least_after l.levels (drop l.production-index l.productions) ≡ least_after l.fn.levels l.productions;
}
