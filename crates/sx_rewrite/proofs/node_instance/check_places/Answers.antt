use Rattle.std.proofs.Common.{arith, map, sym, subst, refl}
use Rattle.sx_term.specs.Term.{tree}
use Rattle.sx_term.specs.Instances.{instance, bound_by}
use Rattle.sx_term.proofs.Kids.{greatest_depth-at}
use Rattle.sx_rewrite.specs.Rewriting.{first_over}
use Rattle.sx_rewrite.specs.Puts.{Tells, Answers}
use Rattle.sx_rewrite.proofs.Instanced.{measured-by, places-tell, places-step, err_is}
use Rattle.sx_rewrite.proofs.node_instance.check_places.Goals as goal

pub instance_measure-requires-clause-shallow : goal.instance_measure-requires-clause-shallow
instance_measure-requires-clause-shallow c =
    let a = greatest_depth-at _ _ _ c.loop-i-test.true c.index-places-i.is in
    let s = c.requires.shallow in
    omega (arith, a, s)

pub returns-in_err-check_measure : goal.returns-in_err-check_measure
returns-in_err-check_measure c = λ binds h.
    let over = first_over (map (instance (bound_by binds)) (map tree c.args.places.now)) in
    let is = measured-by c.args.measures.now _ _ c.instance_measure.result refl c.instance_measure.ensures.depth c.instance_measure.ensures.size in
    err_is (Answers over (λ x. Unit {0})) c.from_residual.result _ c.from_residual.ensures.1
    (λ e same. subst (Tells over) (sym same)
    (places-tell c.args.places.now c.loop-i.i c.args.measures.now c.loop-i.invariant _ c.loop-i-test.true c.index-places-i.is c.instance_measure.result is _ c.in_err-check_measure.ensures binds h))

pub loop-i-preserved : goal.loop-i-preserved
loop-i-preserved c =
    let is = measured-by c.args.measures.now _ _ c.instance_measure.result refl c.instance_measure.ensures.depth c.instance_measure.ensures.size in
    places-step c.args.places.now c.loop-i.i c.args.measures.now c.loop-i.invariant _ c.loop-i-test.true c.index-places-i.is c.instance_measure.result is c.in_ok-check_measure.ensures
