use Rattle.std.proofs.Common.{◌≡◌, ◌+◌, ◌-◌, inl, inr, sym, subst, ap, ◌∙◌, arith}
use Rattle.std.proofs.lemmas.Bool.{cases_lt, false≢true}
use Rattle.sx_earley.specs.Shown.{plain}
use Rattle.sx_forest.specs.Tallies.{tally_of, ways_at}
use Rattle.sx_forest.specs.Rows.{IsIn}
use Rattle.sx_forest.specs.Reached.{HasReach, reaches_at}
use Rattle.sx_forest.proofs.Reaching.{none_beside}
use Rattle.sx_forest.proofs.narrowing.before_part.Goals as goal
use Rattle.sx_forest.proofs.narrowing.before_part.Goals.{then-is_some, else-is_some}

pub loop-number-preserved : goal.loop-number-preserved
loop-number-preserved c = λ n m p low some reaches fits.
    let next = c.args.next.now in let ways = next.ways in let k = c.loop-number.number in
    let starts = c.args.table.now.starts.lists.items in
    elim c.if-is_some.branch [
      | then-is_some w ↦ subst (λ s. IsIn s p) (sym w.grown-is) (elim (cases_lt n k) [
        | inl below ↦ w.over_reaches-grown.ensures.kept p (c.loop-number.invariant n m p below some reaches fits)
        | inr above ↦
            let same : n ≡ k = omega (arith, low, above) in
            let here : HasReach (reaches_at starts (next.end - (k + 1))) m p =
            subst (λ j. HasReach (reaches_at starts (next.end - (j + 1))) m p) same reaches in
            w.over_reaches-grown.ensures.over m p (subst (λ l. HasReach l m p) (sym (w.at-reaches.ensures ∙ ap (λ j. reaches_at starts j) w.saturating_sub.ensures)) here) fits
      ])
      | else-is_some w ↦ subst (λ s. IsIn s p) (sym w.grown-is) (elim (cases_lt n k) [
        | inl below ↦ c.loop-number.invariant n m p below some reaches fits
        | inr above ↦
            let same : n ≡ k = omega (arith, low, above) in
            let there : ways_at ways k ≡ tally_of c.numbered.result = sym c.numbered.ensures in
            absurd (false≢true (sym w.if-is_some.false ∙ c.is_some.ensures.1 (λ none. some (ap (ways_at ways) same ∙ (there ∙ none)))))
      ])
    ]

pub returns : goal.returns
returns c =
    let t = c.args.table.now in let next = c.args.next.now in
    none_beside (plain c.args.grammar.now) t.lists.items t.ends.lists.items t.starts.lists.items t.reached c.args.sort c.args.least next c.loop-number.grown
    (λ n m p low some reaches fits. c.loop-number.invariant n m p (omega (arith, low, c.loop-number-test.false, c.len-number-end.ensures)) some reaches fits)
