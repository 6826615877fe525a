use Rattle.std.proofs.Common.{◌≡◌, inl, inr, sym, subst, arith}
use Rattle.std.proofs.lemmas.Bool.{cases_lt}
use Rattle.sx_earley.specs.Shown.{plain}
use Rattle.sx_forest.specs.Reached.{HasReach, reaches_at}
use Rattle.sx_forest.proofs.Reaching.{ends_within}
use Rattle.sx_forest.proofs.spreading.over_part.Goals as goal

pub loop-place-preserved : goal.loop-place-preserved
loop-place-preserved c = λ place m p ahead low reaches fits.
    let lists = c.args.table.now.ends.lists.items in
    elim (cases_lt place c.loop-place.place) [
      | inl below ↦ c.over_reaches-grown.ensures.kept p (c.loop-place.invariant place m p ahead below reaches fits)
      | inr above ↦
          let same : place ≡ c.loop-place.place = omega (arith, low, above) in
          let here : HasReach (reaches_at lists c.loop-place.place) m p = subst (λ q. HasReach (reaches_at lists q) m p) same reaches in
          c.over_reaches-grown.ensures.over m p (subst (λ l. HasReach l m p) (sym c.at-reaches.ensures) here) fits
    ]

pub returns : goal.returns
returns c =
    let t = c.args.table.now in
    ends_within (plain c.args.grammar.now) t.lists.items t.ends.lists.items t.starts.lists.items t.reached c.args.sort c.args.least c.args.stretch c.loop-place.grown
    (λ place m p is reaches fits. let under = is.1 in c.loop-place.invariant place m p is.0 (omega (arith, under, c.loop-place-test.false)) reaches fits)
