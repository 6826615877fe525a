use Rattle.sx_earley.specs.Shown.{plain, tokens_of}
use Rattle.sx_forest.specs.KeptRows.{symbols_by}
use Rattle.sx_forest.proofs.Wider.{AreWideTo}
use Rattle.sx_forest.proofs.widening.wider_rows.Given as goal

abbrev pub invariant-loop-row : goal.invariant-loop-row
invariant-loop-row l =
    AreWideTo (plain l.basis.grammar.now) (tokens_of l.basis.grammar.now l.basis.shown.now) l.basis.table.now.lists.items l.kept.head (symbols_by (plain l.basis.grammar.now) l.kept.head) l.kept.to
    l.kept.stretches.items l.stretches l.fn.rows.items l.wide.items l.row-iterator.rest.items
