use Rattle.std.proofs.Common.{arith, List, ◌++◌, ◌∷◌, [], ◌+◌, map, ap, sym, subst, ◌∙◌}
use Rattle.sx_term.specs.declared.term.Term.{Term}
use Rattle.sx_term.specs.Term.{tree}
use Rattle.sx_term.specs.Instances.{instance, bound_by}
use Rattle.sx_term.proofs.Kids.{greatest_depth-at}
use Rattle.sx_plain.specs.declared.measure.Measure.{Measure}
use Rattle.sx_rewrite.specs.Rewriting.{first_over}
use Rattle.sx_rewrite.specs.Puts.{Tells, Answers}
use Rattle.sx_rewrite.specs.Put.{ArePutsMade}
use Rattle.sx_rewrite.proofs.Instanced.{InstancesSoFar, measured-by, instances-tell, instances-step, err_is}
use Rattle.sx_rewrite.proofs.node_instance.instances.Goals as goal

pub instance_measure-measure-requires-clause-shallow : goal.instance_measure-measure-requires-clause-shallow
instance_measure-measure-requires-clause-shallow c =
    let a = greatest_depth-at _ _ _ c.loop-i-test.true c.index-terms-i.is in
    let s = c.requires.shallow in
    omega (arith, a, s)

pub instance_made-requires-clause-shallow : goal.instance_made-requires-clause-shallow
instance_made-requires-clause-shallow c =
    let a = greatest_depth-at _ _ _ c.loop-i-test.true c.index-terms-i.is in
    let s = c.requires.shallow in
    omega (arith, a, s)

pub returns-in_err-check_measure : goal.returns-in_err-check_measure
returns-in_err-check_measure c = λ more p.
    let all = map (instance (bound_by more)) (map tree c.args.terms.now) in
    let m = c.instance_measure-measure in
    let is = measured-by c.args.puts.now.measures.items _ _ m.result c.deref.ensures.value m.ensures.depth m.ensures.size in
    err_is (Answers (first_over all) (ArePutsMade all)) c.from_residual-in_err-check_measure.result _ c.from_residual-in_err-check_measure.ensures.1
    (λ e same. subst (Tells (first_over all)) (sym same)
    (instances-tell c.args.puts.now c.args.terms.now c.loop-i.i c.loop-i.made.items c.loop-i.measures.items c.loop-i.invariant _ c.loop-i-test.true c.index-terms-i.is m.result is _ c.in_err-check_measure.ensures more p))

pub loop-i-preserved : goal.loop-i-preserved
loop-i-preserved c =
    let puts = c.args.puts.now in
    let ts = c.args.terms.now in
    let m = c.instance_measure-measure in
    let made = c.loop-i.made.items in
    let new = c.in_ok-instance_made.field-0 in
    let k = c.index-terms-i.result in
    let is = measured-by puts.measures.items _ _ m.result c.deref.ensures.value m.ensures.depth m.ensures.size in
    let new_is = c.in_ok-instance_made.ensures ∙ ap (λ (xs : List Term). instance (bound_by (map tree xs)) (tree k)) c.deref-in-loop-i.ensures.value in
    let step = instances-step puts ts c.loop-i.i made c.loop-i.measures.items c.loop-i.invariant k c.loop-i-test.true c.index-terms-i.is m.result is c.in_ok-check_measure.ensures new new_is c.requires.put in
    subst (λ (xs : List Term). InstancesSoFar puts ts (c.loop-i.i + 1) xs c.push-in-loop-i.new.self.items) (sym c.in_ok-push.ensures.items)
    (subst (λ (ns : List Measure). InstancesSoFar puts ts (c.loop-i.i + 1) (made ++ new ∷ []) ns) (sym c.in_ok-push-2.ensures.items) step)
