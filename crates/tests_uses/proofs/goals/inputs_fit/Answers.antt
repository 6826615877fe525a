use Rattle.std.proofs.Common.{arith, ◌+◌, get_or, length, [], refl, sym, subst}
use Rattle.std.proofs.lemmas.Bool.{eqb-true}
use Rattle.sx_term.specs.declared.lex_kind.LexKind.TheVariants.{Id}
use Rattle.sx_term.specs.declared.role.Role.TheVariants.{In}
use Rattle.sx_term.specs.declared.sort.Sort.TheVariants.{Lex}
use Rattle.sx_term.specs.declared.term.Term.{Term}
use Rattle.sx_term.specs.Shapes.{shapes}
use Rattle.sx_term.specs.Sorts.{HasSort}
use Rattle.sx_term.specs.Term.{tree}
use Rattle.sx_rules.specs.declared.rule.Place.{Place}
use Rattle.tests_uses.proofs.Fitting.{FitsSoFar, shallow-term, fits-start, fits-input, fits-output, fits-end}
use Rattle.tests_uses.proofs.goals.inputs_fit.Goals.{in-In+else-at-terms+else-not-fits, in-Out}
use Rattle.tests_uses.proofs.goals.inputs_fit.Goals as goal

pub loop-place-init : goal.loop-place-init
loop-place-init c = fits-start (shapes c.args.all.now) c.args.places.now c.args.terms.now

pub fits-requires : goal.fits-requires
fits-requires c = shallow-term c.args.terms.now c.loop-place.at c.index-terms-at.result c.requires c.if-at-terms.false c.index-terms-at.is

pub loop-place-preserved : goal.loop-place-preserved
loop-place-preserved c =
    let all = shapes c.args.all.now in
    let ps = c.args.places.now in
    let ts = c.args.terms.now in
    let i = c.loop-place.place-index in
    let at = c.loop-place.at in
    let d : Place = (record { role = In; sort = Lex Id }) in
    elim c.match-place.branch [
      | in-In+else-at-terms+else-not-fits w ↦ subst (FitsSoFar all ps ts (i + 1)) (sym w.at-is)
          (fits-input all ps ts i at c.loop-place.invariant c.loop-place-test.true d w.if-at-terms.false w.index-terms-at.result w.in-In.is
          (subst (λ (t : Term). HasSort all [] (tree t) (get_or ps i d).sort) w.index-terms-at.is (w.if-not-fits.ensures.0 refl)))
      | in-Out w ↦ subst (FitsSoFar all ps ts (i + 1)) (sym w.at-is) (fits-output all ps ts i at c.loop-place.invariant c.loop-place-test.true d w.in-Out.is)
    ]

pub returns : goal.returns
returns c = λ e.
    let same = eqb-true c.loop-place.at (length c.args.terms.now) e in
    fits-end (shapes c.args.all.now) c.args.places.now c.args.terms.now c.loop-place.place-index c.loop-place.at c.loop-place.invariant c.loop-place-test.false (omega (arith, same))
