use Rattle.std.proofs.Common.{rules, ap, ◌∙◌}
use Rattle.sx_rules.specs.declared.proof.Proof.TheViews.{the_lemmas}
use Rattle.sx_rules.specs.ProofView.{proof}
use Rattle.sx_rules.proofs.ProofRows.{height_of-kid}
use Rattle.sx_rules.proofs.ProofCopies.{kid-shallow, node-copied}
use Rattle.sx_rules.proofs.proof_copy.+copy_proof.Goals as goal

pub copy_proof-requires : goal.copy_proof-requires
copy_proof-requires t c =
    let k = height_of-kid _ _ _ _ _ c.in-By.is c.deref-kid-items.ensures.value _ _ _ c.loop-kid-test.true c.kid-item.is c.deref.ensures in
    let s = kid-shallow _ _ _ _ c.in-By.is _ _ _ _ c.deref-kid-items.ensures.value c.loop-kid-test.true c.kid-item.is c.deref.ensures c.requires.binds in
    search (rules, the_lemmas)

pub returns-in_ok-new-in-By : goal.returns-in_ok-new-in-By
returns-in_ok-new-in-By t c =
    ap proof c.in_ok-new-in-By.ensures.ok
    ∙ node-copied _ _ _ _ c.in-By.is _ _ c.in_ok-terms-in-By.terms _ c.loop-kid.copies c.deref-kid-items.ensures.value c.deref-in-By.ensures.value c.in_ok-terms-in-By.ensures c.loop-kid.invariant c.loop-kid-test.false
