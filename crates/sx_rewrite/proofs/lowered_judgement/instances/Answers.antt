use Rattle.std.proofs.Common.{arith, List, ◌+◌, map, sym, subst}
use Rattle.sx_term.specs.declared.term.Term.{Term}
use Rattle.sx_term.specs.Term.{tree}
use Rattle.sx_term.specs.Instances.{instance, bound_by}
use Rattle.sx_term.proofs.Kids.{greatest_depth-at}
use Rattle.sx_rewrite.proofs.Judged.{MadeSoFar, none-made, one-made, all-made}
use Rattle.sx_rewrite.proofs.lowered_judgement.instances.Goals as goal

pub loop-i-init : goal.loop-i-init
loop-i-init c = none-made (instance (bound_by (map tree c.args.binds.now))) c.args.terms.now _ c.in_ok-made.ensures.items

pub instance_made-requires-clause-shallow : goal.instance_made-requires-clause-shallow
instance_made-requires-clause-shallow c =
    let a = greatest_depth-at _ _ _ c.loop-i-test.true c.index-terms-i.is in
    let s = c.requires.terms in
    omega (arith, a, s)

pub loop-i-preserved : goal.loop-i-preserved
loop-i-preserved c =
    let f = instance (bound_by (map tree c.args.binds.now)) in
    subst (λ (xs : List Term). MadeSoFar f c.args.terms.now (c.loop-i.i + 1) xs) (sym c.in_ok-push.ensures.items)
    (one-made f c.args.terms.now c.loop-i.i c.loop-i.made.items c.loop-i.invariant _ c.loop-i-test.true c.index-terms-i.is _ c.in_ok-instance_made.ensures)

pub returns : goal.returns
returns c = all-made (instance (bound_by (map tree c.args.binds.now))) c.args.terms.now c.loop-i.i c.loop-i.made.items c.loop-i.invariant c.loop-i-test.false
