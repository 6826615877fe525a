use Rattle.sx_rules.specs.Derivations.{height_of}
use Rattle.sx_rules.specs.ProofView.{proof}
use Rattle.tests_uses.proofs.opened.+same_proof.Given as goal

abbrev pub decreases-same_proof : goal.decreases-same_proof
decreases-same_proof l = height_of (proof l.one.now)

abbrev pub invariant-loop-i : goal.invariant-loop-i
invariant-loop-i l = Unit {0}
