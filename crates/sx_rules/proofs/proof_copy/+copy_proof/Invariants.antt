use Rattle.std.proofs.Common.{◌≡◌, take}
use Rattle.sx_rules.proofs.ProofCopies.{views}
use Rattle.sx_rules.proofs.proof_copy.+copy_proof.Given as goal

abbrev pub invariant-loop-kid : goal.invariant-loop-kid
invariant-loop-kid l = views l.copies.items ≡ views (take l.kid-index l.kid-items)
