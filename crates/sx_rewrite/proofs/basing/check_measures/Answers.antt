use Rattle.std.proofs.Common.{subst, sym}
use Rattle.sx_rewrite.specs.Rewriting.{first_over}
use Rattle.sx_rewrite.specs.Puts.{Tells, Answers}
use Rattle.sx_rewrite.proofs.Instanced.{err_is}
use Rattle.sx_rewrite.proofs.BasedTerms.{measures-tell, measures-step, measures-end}
use Rattle.sx_rewrite.proofs.basing.check_measures.Goals as goal

pub returns-in_err-check_measure : goal.returns-in_err-check_measure
returns-in_err-check_measure c = λ ts h.
    err_is (Answers (first_over ts) (λ x. Unit {0})) c.from_residual.result _ c.from_residual.ensures.1
    (λ e same. subst (Tells (first_over ts)) (sym same)
    (measures-tell c.args.measures.now c.loop-measure.measure-index c.loop-measure.invariant (record { depth = 0; size = 0 }) c.loop-measure-test.true _ c.in_err-check_measure.ensures ts h))

pub loop-measure-preserved : goal.loop-measure-preserved
loop-measure-preserved c =
    measures-step c.args.measures.now c.loop-measure.measure-index c.loop-measure.invariant (record { depth = 0; size = 0 }) c.loop-measure-test.true c.in_ok-check_measure.ensures

pub returns : goal.returns
returns c = λ ts h. (measures-end c.args.measures.now c.loop-measure.measure-index c.loop-measure.invariant c.loop-measure-test.false ts h, tt)
