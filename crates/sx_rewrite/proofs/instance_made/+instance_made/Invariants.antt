use Rattle.std.proofs.Common.{◌≡◌, map, take}
use Rattle.sx_term.specs.Term.{tree}
use Rattle.sx_term.specs.Instances.{instance, bound_by}
use Rattle.sx_rewrite.proofs.instance_made.+instance_made.Given as goal

abbrev pub invariant-loop-kid : goal.invariant-loop-kid
invariant-loop-kid l = map tree l.made.items ≡ map (λ t. instance (bound_by (map tree l.parts)) (tree t)) (take l.kid-index l.kid-items)
