use Rattle.std.proofs.Common.{◌≡◌, ◌++◌, drop, codes}
use Rattle.sx_audit.specs.Kinds.{counts_text}
use Rattle.sx_audit.specs.Rows.{row_names, counts_of}
use Rattle.sx_audit.proofs.tallying.rows_text.Given as goal

abbrev pub invariant-loop-row : goal.invariant-loop-row
invariant-loop-row l =
    l.made.items ++ counts_text (row_names (drop l.row-index l.rows))
    (counts_of (drop l.row-index l.rows))
    ≡ codes "tally" ++ counts_text (row_names l.rows) (counts_of l.rows)
