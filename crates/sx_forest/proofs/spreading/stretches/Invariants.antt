use Rattle.std.proofs.Common.{◌≡◌, ◌<◌, List, length}
use Rattle.sx_grammar.specs.Grammar.{Token}
use Rattle.sx_earley.specs.Shown.{plain}
use Rattle.sx_forest.specs.Rows.{AreStretches}
use Rattle.sx_forest.proofs.spreading.stretches.Given as goal

abbrev pub invariant-loop-dot : goal.invariant-loop-dot
invariant-loop-dot l = record {
  ahead : 0 < l.dot;
  long : length l.all.items ≡ l.dot;
  are : (tokens : List Token) → AreStretches (plain l.basis.grammar.now) tokens l.basis.table.now.lists.items l.head l.dot l.from l.to l.all.items;
}
