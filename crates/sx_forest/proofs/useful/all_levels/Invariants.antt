use Rattle.std.proofs.Common.{◌≡◌, length}
use Rattle.sx_earley.specs.Shown.{plain, tokens_of}
use Rattle.sx_forest.specs.Useful.{AreMetBy}
use Rattle.sx_forest.proofs.useful.all_levels.Given as goal

abbrev pub invariant-loop-place : goal.invariant-loop-place
invariant-loop-place l = record {
  long : length l.levels.numbers.items ≡ l.place;
  met : AreMetBy (plain l.grammar) (tokens_of l.grammar l.shown) l.levels.rows.items l.levels.numbers.items;
}
