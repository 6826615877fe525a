use Rattle.std.proofs.Common.{◌+◌, ◌*◌}
use Rattle.sx_rules.specs.Derivations.{height_of, most_height}
use Rattle.sx_rules.specs.ProofView.{proof, boxed}
use Rattle.sx_rewrite.specs.AcceptedView.{accepted}
use Rattle.sx_rewrite.proofs.Tallied.{KidsSoFar, BaseSoFar}
use Rattle.sx_rewrite.proofs.tallying.+tallied.Given as goal

abbrev pub decreases-tally : goal.decreases-tally
decreases-tally l = 3 * height_of (proof l.proof.now)

abbrev pub decreases-certificate_tally : goal.decreases-certificate_tally
decreases-certificate_tally l = 3 * most_height (boxed l.kids.now) + 2

abbrev pub decreases-base_tally : goal.decreases-base_tally
decreases-base_tally l = 3 * most_height (boxed l.kids.now) + 2

abbrev pub decreases-with_kid : goal.decreases-with_kid
decreases-with_kid l = 3 * height_of (proof l.kid.now) + 1

abbrev pub invariant-certificate_tally-loop-i : goal.invariant-certificate_tally-loop-i
invariant-certificate_tally-loop-i l = KidsSoFar (accepted l.set) l.size l.kids l.i l.all

abbrev pub invariant-base_tally-loop-i : goal.invariant-base_tally-loop-i
invariant-base_tally-loop-i l = BaseSoFar (accepted l.set) l.kids l.i l.all
