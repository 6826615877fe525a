use Rattle.sx_term.specs.Tree.{depth_of}
use Rattle.sx_term.specs.Term.{tree}
use Rattle.sx_plain.specs.Views.{table_of}
use Rattle.sx_plain.proofs.BareLaws.{Without}
use Rattle.sx_plain.proofs.bare.+without_bare.Given as goal

abbrev pub decreases-without_bare : goal.decreases-without_bare
decreases-without_bare l = depth_of (tree l.term.now)

abbrev pub invariant-loop-i : goal.invariant-loop-i
invariant-loop-i l = Without (table_of l.table) l.parts.items l.kids.items l.i
