use Rattle.std.proofs.Common.{ℕ, get_or, sym, subst, ◌∙◌, arith}
use Rattle.std.proofs.lemmas.Bool.{false≢true}
use Rattle.std.proofs.lemmas.Option.{slice_get-get_or, slice_get_within}
use Rattle.sx_earley.specs.Shown.{plain}
use Rattle.sx_forest.specs.Rows.{FitsPart, IsIn}
use Rattle.sx_forest.proofs.Reaching.{no_reach, reaches_on}
use Rattle.sx_forest.proofs.spreading.over_reaches.Goals as goal
use Rattle.sx_forest.proofs.spreading.over_reaches.Goals.{then-fits, else-fits}

pub loop-reach-preserved : goal.loop-reach-preserved
loop-reach-preserved c =
    let g = plain c.args.grammar.now in let n = c.loop-reach.reach-index in let reaches = c.args.reaches.now in
    let r = get_or reaches n no_reach in let old = c.loop-reach.grown in let new = c.if-fits.grown in
    let there = slice_get-get_or reaches n no_reach c.loop-reach-test.true in
    elim c.if-fits.branch [
      | then-fits w ↦
          let kept : (p : ℕ) → IsIn old p → IsIn new p = λ p is. subst (λ s. IsIn s p) (sym w.grown-is) (w.joined-grown.ensures.one p is) in
          record {
            kept = λ p is. kept p (c.loop-reach.invariant.kept p is);
            over = reaches_on g c.args.sort c.args.least n old new reaches r there kept
                (λ fits p is. subst (λ s. IsIn s p) (sym w.grown-is) (w.joined-grown.ensures.other p is)) c.loop-reach.invariant.over;
          }
      | else-fits w ↦
          let kept : (p : ℕ) → IsIn old p → IsIn new p = λ p is. subst (λ s. IsIn s p) (sym w.grown-is) is in
          record {
            kept = λ p is. kept p (c.loop-reach.invariant.kept p is);
            over = reaches_on g c.args.sort c.args.least n old new reaches r there kept
                (λ fits p is. absurd (false≢true (sym w.if-fits.false ∙ c.fits.ensures.1 fits))) c.loop-reach.invariant.over;
          }
    ]

pub returns-clause-over : goal.returns-clause-over
returns-clause-over c = λ m p h fits.
    let low = slice_get_within c.args.reaches.now h.0 h.1 h.2 in
    c.loop-reach.invariant.over h.0 h.1 p (omega (arith, low, c.loop-reach-test.false)) h.2 (subst (λ x. FitsPart (plain c.args.grammar.now) x c.args.sort c.args.least) (sym h.3) fits) h.4
