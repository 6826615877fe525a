use Rattle.std.proofs.Common.{arith, ◌≡◌, ◌+◌, List, [], ◌∷◌, ◌++◌, sym, subst}
use Rattle.sx_term.specs.declared.term.Term.{Term}
use Rattle.sx_plain.specs.declared.measure.Measure.{Measure}
use Rattle.sx_term.proofs.Kids.{greatest_depth-at}
use Rattle.sx_plain.specs.Views.{table_of}
use Rattle.sx_rewrite.proofs.PutImages.{ImagesSoFar, images-step, images-end, term-fits}
use Rattle.sx_rewrite.proofs.image_terms.image_terms.Goals as goal

pub put_image-requires-clause-shallow : goal.put_image-requires-clause-shallow
put_image-requires-clause-shallow c =
    let a = greatest_depth-at _ _ _ c.loop-i-test.true c.index-binds-i.is in
    let s = c.requires.shallow in
    omega (arith, a, s)

pub put_image-requires-clause-fits : goal.put_image-requires-clause-fits
put_image-requires-clause-fits c = term-fits _ _ _ _ c.requires.fit c.loop-i-test.true c.index-binds-i.is

pub loop-i-preserved : goal.loop-i-preserved
loop-i-preserved c =
    let table = table_of c.args.table.now in
    let made = c.loop-i.terms.items in
    let ms = c.loop-i.measures.items in
    let p = c.in_ok-term.field-0 in
    let step = images-step table c.args.sorts.now c.args.binds.now c.loop-i.i made ms c.loop-i.invariant _ _ p c.requires.many c.loop-i-test.true c.sort_at-sort.ensures c.index-binds-i.is c.in_ok-term.ensures in
    let terms : c.push.new.self.items ≡ made ++ p.term ∷ [] = c.in_ok-push.ensures.items in
    let measures : c.push-in-loop-i.new.self.items ≡ ms ++ p.measure ∷ [] = c.in_ok-push-2.ensures.items in
    subst (λ (xs : List Term). ImagesSoFar table c.args.sorts.now c.args.binds.now (c.loop-i.i + 1) xs c.push-in-loop-i.new.self.items) (sym terms)
    (subst (λ (ns : List Measure). ImagesSoFar table c.args.sorts.now c.args.binds.now (c.loop-i.i + 1) (made ++ p.term ∷ []) ns) (sym measures) step)

pub returns : goal.returns
returns c = images-end (table_of c.args.table.now) c.args.sorts.now c.args.binds.now c.loop-i.i c.loop-i.terms.items c.loop-i.measures.items c.loop-i.invariant c.loop-i-test.false
