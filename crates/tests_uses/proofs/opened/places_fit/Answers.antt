use Rattle.std.proofs.Common.{arith, refl}
use Rattle.sx_term.specs.declared.lex_kind.LexKind.TheVariants.{Id}
use Rattle.sx_term.specs.declared.role.Role.TheVariants.{In}
use Rattle.sx_term.specs.declared.sort.Sort.TheVariants.{Lex}
use Rattle.sx_term.specs.Shapes.{shapes}
use Rattle.sx_rules.specs.declared.rule.Place.{Place}
use Rattle.tests_uses.proofs.Fitting.{shallow-term}
use Rattle.tests_uses.proofs.FromHeld.{fit-next, fit-end}
use Rattle.tests_uses.proofs.opened.places_fit.Goals as goal

pub fits-requires : goal.fits-requires
fits-requires c = shallow-term c.args.terms.now c.loop-i.i c.index-terms-i.result c.requires c.loop-i-test.true c.index-terms-i.is

pub size-requires : goal.size-requires
size-requires c = shallow-term c.args.terms.now c.loop-i.i c.index-terms-i.result c.requires c.loop-i-test.true c.index-terms-i.is

pub loop-i-preserved : goal.loop-i-preserved
loop-i-preserved c =
    let d : Place = (record { role = In; sort = Lex Id }) in
    fit-next (shapes c.args.all.now) c.args.places.now c.args.terms.now c.if-terms-places.false c.loop-i.i c.loop-i.invariant c.index-terms-i.result d c.loop-i-test.true c.index-terms-i.is
    (c.if-not-fits.ensures.0 refl) (let a = c.size.ensures in let b = c.if-size-gt1000000.false in omega (arith, a, b))
    (shallow-term c.args.terms.now c.loop-i.i c.index-terms-i.result c.requires c.loop-i-test.true c.index-terms-i.is)

pub returns : goal.returns
returns c = λ e. c.loop-i.invariant (fit-end (shapes c.args.all.now) c.args.places.now c.args.terms.now c.if-terms-places.false c.loop-i.i c.loop-i-test.false)
