use Rattle.std.proofs.Common.{◌≡◌, ℕ, ◌+◌, ◌<◌, ◌≤◌, [], length}
use Rattle.sx_grammar.specs.Tables.{GrammarData}
use Rattle.sx_earley.specs.Shown.{tokens_of}
use Rattle.sx_forest.specs.Rows.{entries_at}
use Rattle.sx_forest.specs.Table.{IsFirstList}
use Rattle.sx_forest.proofs.first_entries.first_entries.Given as goal

abbrev pub invariant-loop-place : goal.invariant-loop-place
invariant-loop-place l = record {
  long : length l.table.lists.items ≡ length l.shown + 1;
  done : (d : GrammarData) (p : ℕ) → p < l.place → IsFirstList (tokens_of d l.shown) p (entries_at l.table.lists.items p);
  left : (p : ℕ) → l.place ≤ p → entries_at l.table.lists.items p ≡ [];
}
