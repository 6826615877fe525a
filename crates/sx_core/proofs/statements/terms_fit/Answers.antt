use Rattle.std.proofs.Common.{[], false, true}
use Rattle.sx_term.specs.Shapes.{shapes}
use Rattle.sx_term.proofs.SortLaws.{kids_differ, kids_more, kids_all, kids_unlike}
use Rattle.sx_rules.proofs.Holes.{shallow_at}
use Rattle.sx_rules.proofs.RowLaws.{as_row}
use Rattle.sx_core.proofs.statements.terms_fit.Goals as goal

pub returns-then-terms-sorts : goal.returns-then-terms-sorts
returns-then-terms-sorts c = as_row (shapes c.args.all.now) [] false c.args.terms.now c.args.sorts.now (kids_unlike (shapes c.args.all.now) [] c.args.terms.now c.args.sorts.now c.if-terms-sorts.true)

pub loop-i-init : goal.loop-i-init
loop-i-init c = record { long = c.if-terms-sorts.false; same = (λ k. k, λ k. k) }

pub fits-requires : goal.fits-requires
fits-requires c = shallow_at c.args.terms.now c.loop-i.i c.index-terms-i.result c.requires c.loop-i-test.true c.index-terms-i.is

pub returns-then-not-fits : goal.returns-then-not-fits
returns-then-not-fits c =
    as_row (shapes c.args.all.now) [] false c.args.terms.now c.args.sorts.now
    (kids_differ (shapes c.args.all.now) [] c.args.terms.now c.args.sorts.now c.loop-i.i c.index-terms-i.result _ c.fits.result c.loop-i-test.true c.loop-i.invariant.long c.index-terms-i.is c.loop-i.invariant.same c.if-not-fits.true c.fits.ensures)

pub loop-i-preserved : goal.loop-i-preserved
loop-i-preserved c = record {
  long = c.loop-i.invariant.long;
  same = kids_more (shapes c.args.all.now) [] c.args.terms.now c.args.sorts.now c.loop-i.i c.index-terms-i.result _ c.fits.result c.loop-i-test.true c.loop-i.invariant.long c.index-terms-i.is c.loop-i.invariant.same c.if-not-fits.false c.fits.ensures;
}

pub returns : goal.returns
returns c = as_row (shapes c.args.all.now) [] true c.args.terms.now c.args.sorts.now (kids_all (shapes c.args.all.now) [] c.args.terms.now c.args.sorts.now c.loop-i.i c.loop-i-test.false c.loop-i.invariant.long c.loop-i.invariant.same)
