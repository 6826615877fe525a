use Rattle.std.proofs.Common.{drop}
use Rattle.sx_term.proofs.Kids.{trees}
use Rattle.sx_plain.specs.Tables.{FitTable}
use Rattle.sx_plain.specs.Views.{table_of}
use Rattle.tests_terms.proofs.conditions.+fits.Given as goal

abbrev pub invariant-loop-kid : goal.invariant-loop-kid
invariant-loop-kid l = FitTable (table_of l.table) (trees (drop l.kid-index l.kid-items)) → FitTable (table_of l.table) (trees l.kid-items)
