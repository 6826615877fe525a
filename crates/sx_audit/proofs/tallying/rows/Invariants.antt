use Rattle.std.proofs.Common.{◌≡◌, map}
use Rattle.sx_audit.specs.Rows.{row_names, counts_of}
use Rattle.sx_audit.proofs.tallying.rows.Given as goal

abbrev pub invariant-loop-name : goal.invariant-loop-name
invariant-loop-name l = (row_names l.rows.items ≡ l.yielded)
    × (counts_of l.rows.items ≡ map (λ x. 0) l.yielded)
