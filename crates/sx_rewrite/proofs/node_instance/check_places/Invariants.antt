use Rattle.std.proofs.Common.{◌≡◌, List, map, drop}
use Rattle.sx_term.specs.Tree.{Tree}
use Rattle.sx_term.specs.Term.{tree}
use Rattle.sx_term.specs.Instances.{instance, bound_by}
use Rattle.sx_rewrite.specs.Rewriting.{first_over}
use Rattle.sx_rewrite.specs.Puts.{AreMeasuresOf}
use Rattle.sx_rewrite.proofs.node_instance.check_places.Given as goal

abbrev pub invariant-loop-i : goal.invariant-loop-i
invariant-loop-i l =
    (binds : List Tree) → AreMeasuresOf binds l.measures →
    first_over (map (instance (bound_by binds)) (map tree l.places)) ≡ first_over (map (instance (bound_by binds)) (drop l.i (map tree l.places)))
