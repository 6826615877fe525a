use Rattle.sx_term.specs.Shapes.{shapes}
use Rattle.sx_rules.specs.Views.{forms}
use Rattle.sx_rules.proofs.RowLaws.{premises_differ, premises_more, premises_all, premise_shallow_at}
use Rattle.sx_rules.proofs.fitting.premises_fit.Goals as goal

pub loop-i-init : goal.loop-i-init
loop-i-init c = (λ k. k, λ k. k)

pub premise_fits-requires : goal.premise_fits-requires
premise_fits-requires c = premise_shallow_at c.args.premises.now c.loop-i.i c.index-premises-i.result c.requires c.loop-i-test.true c.index-premises-i.is

pub returns-then-not-premise_fits : goal.returns-then-not-premise_fits
returns-then-not-premise_fits c =
    premises_differ (shapes c.args.all.now) (forms c.args.known.now) c.args.vars.now c.args.premises.now c.loop-i.i c.index-premises-i.result c.premise_fits.result c.loop-i-test.true c.index-premises-i.is c.loop-i.invariant c.if-not-premise_fits.true c.premise_fits.ensures

pub loop-i-preserved : goal.loop-i-preserved
loop-i-preserved c =
    premises_more (shapes c.args.all.now) (forms c.args.known.now) c.args.vars.now c.args.premises.now c.loop-i.i c.index-premises-i.result c.premise_fits.result c.loop-i-test.true c.index-premises-i.is c.loop-i.invariant c.if-not-premise_fits.false c.premise_fits.ensures

pub returns : goal.returns
returns c = premises_all (shapes c.args.all.now) (forms c.args.known.now) c.args.vars.now c.args.premises.now c.loop-i.i c.loop-i-test.false c.loop-i.invariant
