use Rattle.sx_term.specs.Shapes.{shapes}
use Rattle.sx_plain.specs.Views.{table_of}
use Rattle.sx_extension.proofs.Lacking.{HaveUpTo}
use Rattle.sx_extension.proofs.plain_table.first_without.Given as goal

abbrev pub invariant-loop-label : goal.invariant-loop-label
invariant-loop-label l = record { have : HaveUpTo (shapes l.all) l.first (table_of l.table) l.label }
