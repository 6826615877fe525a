use Rattle.std.proofs.Common.{rules, ◌≡◌, ap, sym, refl, ◌∙◌, false, true}
use Rattle.sx_term.specs.declared.term.Term.TheViews.{the_lemmas}
use Rattle.sx_term.proofs.Kids.{trees, tree-at_node, greatest_depth-kids, greatest_depth-at}
use Rattle.sx_term.specs.Tree.{node}
use Rattle.sx_term.specs.Shapes.{shape, shapes}
use Rattle.sx_term.proofs.SortLaws.{node_fits, node_unknown, true_is_false, node_differs, kids_differ, kids_more, kids_all, kids_unlike}
use Rattle.sx_term.proofs.shapes.+fits.Goals as goal

pub kids_fit-returns-then-terms-sorts : goal.kids_fit-returns-then-terms-sorts
kids_fit-returns-then-terms-sorts t c = kids_unlike (shapes c.args.all.now) c.args.vars.now c.args.terms.now c.args.sorts.now c.if-terms-sorts.true

pub kids_fit-loop-i-init : goal.kids_fit-loop-i-init
kids_fit-loop-i-init t c = record { long = c.if-terms-sorts.false; same = (λ k. k, λ k. k) }

pub kids_fit-fits-requires : goal.kids_fit-fits-requires
kids_fit-fits-requires t c =
    let a = greatest_depth-at _ _ _ c.loop-i-test.true c.index-terms-i.is in
    search (rules, the_lemmas)

pub kids_fit-returns-then-not-fits : goal.kids_fit-returns-then-not-fits
kids_fit-returns-then-not-fits t c =
    kids_differ (shapes c.args.all.now) c.args.vars.now c.args.terms.now c.args.sorts.now c.loop-i.i c.index-terms-i.result _ c.fits.result c.loop-i-test.true c.loop-i.invariant.long c.index-terms-i.is c.loop-i.invariant.same c.if-not-fits.true c.fits.ensures

pub kids_fit-loop-i-preserved : goal.kids_fit-loop-i-preserved
kids_fit-loop-i-preserved t c = record {
  long = c.loop-i.invariant.long;
  same = kids_more (shapes c.args.all.now) c.args.vars.now c.args.terms.now c.args.sorts.now c.loop-i.i c.index-terms-i.result _ c.fits.result c.loop-i-test.true c.loop-i.invariant.long c.index-terms-i.is c.loop-i.invariant.same c.if-not-fits.false c.fits.ensures;
}

pub kids_fit-returns : goal.kids_fit-returns
kids_fit-returns t c = kids_all (shapes c.args.all.now) c.args.vars.now c.args.terms.now c.args.sorts.now c.loop-i.i c.loop-i-test.false c.loop-i.invariant.long c.loop-i.invariant.same

pub Shapes::fits-kids_fit-requires : goal.Shapes::fits-kids_fit-requires
Shapes::fits-kids_fit-requires t c =
    let k = greatest_depth-kids _ _ _ _ c.in-Node.is c.deref.ensures.value in
    search (rules, the_lemmas)

pub Shapes::fits-returns-else-not-same_sort : goal.Shapes::fits-returns-else-not-same_sort
Shapes::fits-returns-else-not-same_sort t c =
    node_fits (shapes c.args.self.now) c.args.vars.now c.kids_fit.result _ c.in-Node.label (trees c.deref.result.now) (shape c.in-Some.con.now) c.args.sort
    (tree-at_node _ _ _ c.in-Node.is ∙ ap (λ x. node c.in-Node.label (trees x)) (sym c.deref.ensures.value))
    c.in-Some.ensures (c.if-not-same_sort.ensures.0 refl) (rw c.deref-in-Some.ensures.value at c.kids_fit.ensures)

pub Shapes::fits-returns-then-not-same_sort : goal.Shapes::fits-returns-then-not-same_sort
Shapes::fits-returns-then-not-same_sort t c =
    node_differs (shapes c.args.self.now) c.args.vars.now false _ c.in-Node.label _ (shape c.in-Some.con.now) c.args.sort refl
    (tree-at_node _ _ _ c.in-Node.is) c.in-Some.ensures (λ e. let q : false ≡ true = c.if-not-same_sort.ensures.1 e in true_is_false (sym q))

pub Shapes::fits-returns-in-None : goal.Shapes::fits-returns-in-None
Shapes::fits-returns-in-None t c =
    node_unknown (shapes c.args.self.now) c.args.vars.now false _ c.in-Node.label _ c.args.sort refl (tree-at_node _ _ _ c.in-Node.is) c.in-None.ensures
