use Rattle.std.proofs.Common.{arith, map, refl, sym, subst}
use Rattle.sx_term.specs.Term.{tree}
use Rattle.sx_term.specs.Instances.{instance, bound_by}
use Rattle.sx_term.proofs.Kids.{greatest_depth-at}
use Rattle.sx_rewrite.specs.Rewriting.{first_over}
use Rattle.sx_rewrite.specs.Puts.{AreMeasuresOf, Tells, Answers}
use Rattle.sx_rewrite.proofs.Instanced.{measured-by, err_is}
use Rattle.sx_expand.proofs.NodeTerms.{measures-none, measures-tell, measures-more, measures-all}
use Rattle.sx_expand.proofs.node_limits.instance_measures.Goals as goal

pub loop-i-init : goal.loop-i-init
loop-i-init c = measures-none _ _ _ c.in_ok-measures.ensures.items

pub instance_measure-measure-requires-clause-shallow : goal.instance_measure-measure-requires-clause-shallow
instance_measure-measure-requires-clause-shallow c =
    let a = greatest_depth-at _ _ _ c.loop-i-test.true c.index-terms-i.is in
    let s = c.requires.shallow in
    omega (arith, a, s)

pub loop-i-preserved : goal.loop-i-preserved
loop-i-preserved c =
    let m = c.instance_measure-measure in
    let is = measured-by c.args.parts.now _ _ m.result refl m.ensures.depth m.ensures.size in
    measures-more c.args.parts.now c.args.terms.now c.loop-i.i c.loop-i.measures.items c.loop-i.invariant _ c.loop-i-test.true c.index-terms-i.is m.result is c.in_ok-check_measure.ensures _ c.in_ok-push.ensures.items

pub returns-in_err-check_measure-clause-measures : goal.returns-in_err-check_measure-clause-measures
returns-in_err-check_measure-clause-measures c = λ more h.
    let all = map (instance (bound_by more)) (map tree c.args.terms.now) in
    let m = c.instance_measure-measure in
    let is = measured-by c.args.parts.now _ _ m.result refl m.ensures.depth m.ensures.size in
    err_is (Answers (first_over all) (λ x. AreMeasuresOf all x.items)) c.from_residual-in_err-check_measure.result _ c.from_residual-in_err-check_measure.ensures.1
    (λ e same. subst (Tells (first_over all)) (sym same)
    (measures-tell c.args.parts.now c.args.terms.now c.loop-i.i c.loop-i.measures.items c.loop-i.invariant _ c.loop-i-test.true c.index-terms-i.is m.result is _ c.in_err-check_measure.ensures more h))

pub returns-clause-measures : goal.returns-clause-measures
returns-clause-measures c = λ more h. measures-all c.args.parts.now c.args.terms.now c.loop-i.i c.loop-i.measures.items c.loop-i-test.false c.loop-i.invariant more h
