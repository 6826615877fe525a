use Rattle.std.proofs.Common.{◌↔◌, drop}
use Rattle.sx_term.specs.Instances.{StandsInKids}
use Rattle.sx_term.proofs.Kids.{trees}
use Rattle.tests_terms.proofs.conditions.+stands.Given as goal

abbrev pub invariant-loop-kid : goal.invariant-loop-kid
invariant-loop-kid l = StandsInKids l.variable (trees (drop l.kid-index l.kid-items)) ↔ StandsInKids l.variable (trees l.kid-items)
