use Rattle.std.proofs.Common.{◌+◌, ◌*◌}
use Rattle.sx_rules.specs.Derivations.{height_of, most_height}
use Rattle.sx_rules.specs.ProofView.{proof, boxed}
use Rattle.sx_rules.specs.Sets.{bare_rules_in}
use Rattle.sx_rewrite.proofs.KidInstances.{KidsSoFar}
use Rattle.sx_rewrite.proofs.certificate_instance.+certificate.Given as goal

abbrev pub decreases-certificate_instance : goal.decreases-certificate_instance
decreases-certificate_instance l = 2 * height_of (proof l.certificate.now)

abbrev pub decreases-kid_instances : goal.decreases-kid_instances
decreases-kid_instances l = 2 * most_height (boxed l.kids.now) + 1

abbrev pub invariant-kid_instances-loop-i : goal.invariant-kid_instances-loop-i
invariant-kid_instances-loop-i l = KidsSoFar (bare_rules_in l.base) l.puts l.kids l.i l.initial.givens.items l.givens.items l.made.items
