use Rattle.sx_earley.specs.Shown.{plain, tokens_of}
use Rattle.sx_forest.specs.Rows.{AreRows}
use Rattle.sx_forest.proofs.span_rows.last_rows.Given as goal

abbrev pub invariant-loop-done : goal.invariant-loop-done
invariant-loop-done l = AreRows (plain l.basis.grammar.now) (tokens_of l.basis.grammar.now l.basis.shown.now) l.basis.table.now.lists.items l.head l.count l.done l.to l.stretches l.rows.items
