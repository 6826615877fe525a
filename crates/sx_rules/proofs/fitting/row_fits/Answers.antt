use Rattle.sx_term.specs.Shapes.{shapes}
use Rattle.sx_rules.proofs.Holes.{shallow_at}
use Rattle.sx_rules.proofs.RowLaws.{row_differs, row_more, row_all, row_unlike}
use Rattle.sx_rules.proofs.fitting.row_fits.Goals as goal

pub returns-then-terms-places : goal.returns-then-terms-places
returns-then-terms-places c = row_unlike (shapes c.args.all.now) c.args.vars.now c.args.terms.now c.args.places.now c.if-terms-places.true

pub loop-i-init : goal.loop-i-init
loop-i-init c = record { long = c.if-terms-places.false; same = (λ k. k, λ k. k) }

pub fits-requires : goal.fits-requires
fits-requires c = shallow_at c.args.terms.now c.loop-i.i c.index-terms-i.result c.requires c.loop-i-test.true c.index-terms-i.is

pub returns-then-not-fits : goal.returns-then-not-fits
returns-then-not-fits c =
    row_differs (shapes c.args.all.now) c.args.vars.now c.args.terms.now c.args.places.now c.loop-i.i c.index-terms-i.result _ c.fits.result c.loop-i-test.true c.loop-i.invariant.long c.index-terms-i.is c.loop-i.invariant.same c.if-not-fits.true c.fits.ensures

pub loop-i-preserved : goal.loop-i-preserved
loop-i-preserved c = record {
  long = c.loop-i.invariant.long;
  same = row_more (shapes c.args.all.now) c.args.vars.now c.args.terms.now c.args.places.now c.loop-i.i c.index-terms-i.result _ c.fits.result c.loop-i-test.true c.loop-i.invariant.long c.index-terms-i.is c.loop-i.invariant.same c.if-not-fits.false c.fits.ensures;
}

pub returns : goal.returns
returns c = row_all (shapes c.args.all.now) c.args.vars.now c.args.terms.now c.args.places.now c.loop-i.i c.loop-i-test.false c.loop-i.invariant.long c.loop-i.invariant.same
