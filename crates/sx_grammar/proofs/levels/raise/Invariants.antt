use Rattle.std.proofs.Common.{◌≡◌, drop, length}
use Rattle.sx_grammar.specs.Levels.{raised_by}
use Rattle.sx_grammar.proofs.levels.raise.Given as goal

abbrev pub invariant-loop-symbol : goal.invariant-loop-symbol
invariant-loop-symbol l = record {
  size : length l.levels ≡ length l.fn.levels;
  same : raised_by l.levels (drop l.symbol-index l.symbols) ≡ raised_by l.fn.levels l.symbols;
}
