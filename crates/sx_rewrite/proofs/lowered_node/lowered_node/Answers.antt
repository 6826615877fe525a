use Rattle.std.proofs.Common.{subst, ℕ}
use Rattle.sx_rules.specs.ProofView.{proof}
use Rattle.sx_rewrite.specs.Givens.{givens_of, NumbersBelow}
use Rattle.sx_rewrite.proofs.Tallied.{number-boxed}
use Rattle.sx_rewrite.proofs.lowered_node.lowered_node.Goals as goal

pub certified-made-requires-clause-givens : goal.certified-made-requires-clause-givens
certified-made-requires-clause-givens c =
    subst (λ (n : ℕ). NumbersBelow n (givens_of (proof c.in-Some.certificate.now))) (number-boxed c.args.kids.items) (c.requires.graft (proof c.in-Some.certificate.now) c.in-Some.ensures.value).0
