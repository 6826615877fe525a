use Rattle.std.proofs.Common.{sym, subst}
use Rattle.sx_rules.specs.ProofView.{proof}
use Rattle.sx_rules.specs.Sets.{forms_in}
use Rattle.sx_rules.specs.Views.{hypotheses, subjects_in}
use Rattle.sx_rewrite.specs.AcceptedView.{signature}
use Rattle.sx_rewrite.specs.Lowering.{IsLoweringRefused}
use Rattle.sx_rewrite.specs.RewrittenView.{IsRewriting}
use Rattle.sx_rewrite.specs.SourceView.{set_of}
use Rattle.sx_rewrite.proofs.Instanced.{err_is}
use Rattle.sx_rewrite.proofs.Rewrote.{kids-fit, is-spent, is-deep, can-lower, is-refused, is-ready, is-done}
use Rattle.sx_rewrite.proofs.rewrite_calls.rewrite_by.Goals as goal

pub lowered_size-requires-clause-kids : goal.lowered_size-requires-clause-kids
lowered_size-requires-clause-kids c = kids-fit c.args.source.now c.requires.source c.requires.counts (proof c.args.proof.now) c.requires.derived c.args.budget

pub returns-in-None : goal.returns-in-None
returns-in-None c = is-spent c.args.source.now c.requires.source c.requires.counts (proof c.args.proof.now) c.requires.derived c.args.budget c.in-None.ensures

pub returns-then-size-gt-MOST_HEIGHT : goal.returns-then-size-gt-MOST_HEIGHT
returns-then-size-gt-MOST_HEIGHT c = is-deep c.args.source.now c.requires.source c.requires.counts (proof c.args.proof.now) c.requires.derived c.args.budget c.in-Some.size c.in-Some.ensures c.if-size-gt-MOST_HEIGHT.true

pub lower_proof-requires-clause-derived : goal.lower_proof-requires-clause-derived
lower_proof-requires-clause-derived c = can-lower c.args.source.now c.requires.source c.requires.counts (proof c.args.proof.now) c.requires.derived c.args.budget c.in-Some.size c.in-Some.ensures c.if-size-gt-MOST_HEIGHT.false

pub returns-in_err-made-in-Some : goal.returns-in_err-made-in-Some
returns-in_err-made-in-Some c =
    err_is (IsRewriting (set_of c.args.source.now) (signature c.args.source.now.set.now).subjects (hypotheses c.args.source.now.given.now) (proof c.args.proof.now) c.args.budget)
    c.from_residual.result _ c.from_residual.ensures.1
    (λ e same. is-refused c.args.source.now c.requires.source c.requires.counts (proof c.args.proof.now) c.requires.derived c.args.budget c.in-Some.size c.in-Some.ensures c.if-size-gt-MOST_HEIGHT.false e
    (subst (IsLoweringRefused (set_of c.args.source.now) (subjects_in (forms_in c.args.source.now.set.now.base)) (hypotheses c.args.source.now.given.now) (proof c.args.proof.now)) (sym same) c.in_err-made-in-Some.ensures))

pub with_judgement-requires-clause-ready : goal.with_judgement-requires-clause-ready
with_judgement-requires-clause-ready c =
    is-ready c.args.source.now c.requires.source c.requires.counts (proof c.args.proof.now) c.requires.derived c.args.budget c.in-Some.size c.in-Some.ensures c.if-size-gt-MOST_HEIGHT.false (proof c.in_ok-made-in-Some.made.value) c.in_ok-made-in-Some.ensures

pub returns-in_ok-made-in-Some : goal.returns-in_ok-made-in-Some
returns-in_ok-made-in-Some c =
    is-done c.args.source.now c.requires.source c.requires.counts (proof c.args.proof.now) c.requires.derived c.args.budget c.in-Some.size c.in-Some.ensures c.if-size-gt-MOST_HEIGHT.false (proof c.in_ok-made-in-Some.made.value) c.in_ok-made-in-Some.ensures c.with_judgement.result c.with_judgement.ensures
