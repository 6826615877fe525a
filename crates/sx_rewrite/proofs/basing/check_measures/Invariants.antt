use Rattle.std.proofs.Common.{◌≡◌, List, drop}
use Rattle.sx_term.specs.Tree.{Tree}
use Rattle.sx_rewrite.specs.Rewriting.{first_over}
use Rattle.sx_rewrite.specs.Puts.{AreMeasuresOf}
use Rattle.sx_rewrite.proofs.basing.check_measures.Given as goal

abbrev pub invariant-loop-measure : goal.invariant-loop-measure
invariant-loop-measure l = (ts : List Tree) → AreMeasuresOf ts l.measures → first_over ts ≡ first_over (drop l.measure-index ts)
