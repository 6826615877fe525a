use Rattle.std.proofs.Common.{sym, subst, length}
use Rattle.sx_rules.specs.ProofView.{proof}
use Rattle.sx_rules.specs.Rules.{Hypotheses}
use Rattle.sx_rules.specs.Sets.{shapes_in}
use Rattle.sx_rewrite.specs.AcceptedView.{accepted, signature}
use Rattle.sx_rewrite.specs.Rewrites.{CanRewrite, AreGood}
use Rattle.sx_rewrite.specs.RewrittenView.{IsRewriting}
use Rattle.sx_rewrite.proofs.Sources.{none-good}
use Rattle.sx_rewrite.proofs.rewrite_calls.rewrite.Goals as goal

pub rewrite_from-answer-requires-clause-given : goal.rewrite_from-answer-requires-clause-given
rewrite_from-answer-requires-clause-given c =
    subst (AreGood (length (shapes_in c.args.set.now.base))) (sym c.none-none.ensures.none) (none-good (length (shapes_in c.args.set.now.base)))

pub rewrite_from-answer-requires-clause-derived : goal.rewrite_from-answer-requires-clause-derived
rewrite_from-answer-requires-clause-derived c =
    subst (λ (h : Hypotheses). CanRewrite (accepted c.args.set.now) h (proof c.args.proof.now)) (sym c.none-none.ensures.none) c.requires

pub returns : goal.returns
returns c =
    subst (λ (h : Hypotheses). IsRewriting (accepted c.args.set.now) (signature c.args.set.now).subjects h (proof c.args.proof.now) c.args.budget c.rewrite_from-answer.result) c.none-none.ensures.none c.rewrite_from-answer.ensures
