use Rattle.std.proofs.Common.{◌≡◌, drop}
use Rattle.sx_term.specs.Tree.{depth_of}
use Rattle.sx_term.specs.Term.{tree}
use Rattle.sx_term.proofs.Kids.{trees}
use Rattle.sx_plain.specs.Bare.{have_bare}
use Rattle.sx_plain.specs.Views.{table_of}
use Rattle.sx_plain.proofs.bare.+has_bare.Given as goal

abbrev pub decreases-has_bare : goal.decreases-has_bare
decreases-has_bare l = depth_of (tree l.term.now)

abbrev pub invariant-loop-kid : goal.invariant-loop-kid
invariant-loop-kid l = have_bare (table_of l.table) (trees (drop l.kid-index l.kid-items)) ≡ have_bare (table_of l.table) (trees l.kid-items)
