use Rattle.std.proofs.Common.{◌≡◌, ◌<◌, ℕ, List, Vec, subst, ap, length, arith}
use Rattle.std.specs.declared.alloc.Global.{Global}
use Rattle.std.specs.Prelude.{MatchOption}
use Rattle.sx_grammar.specs.Cycles.{AreStepsOf}
use Rattle.sx_grammar.specs.Cyclic.{IsCyclic, IsNotCyclic}
use Rattle.sx_grammar.specs.Order.{AreRanks}
use Rattle.sx_grammar.proofs.Ranking.{steps_are, steps_low, some_grammar}
use Rattle.sx_grammar.proofs.sort_ranks.sort_ranks.Goals as goal

pub ranks-requires-clause-below : goal.ranks-requires-clause-below
ranks-requires-clause-below c =
    steps_low c.args.sorts c.args.productions.now c.deref.result.now c.in_ok-steps.steps.items c.deref-2.result.now c.requires.parts c.deref-2.ensures.value c.in_ok-steps.ensures.same c.in_ok-steps.ensures.only

pub returns-in-Some : goal.returns-in-Some
returns-in-Some c = λ g of.
    let steps = c.in_ok-steps.ensures in
    let are = steps_are g c.args.productions.now c.in_ok-empty.empty.items c.deref.result.now c.in_ok-steps.steps.items c.deref-2.result.now of (c.in_ok-empty.ensures.empty g of) (c.in_ok-empty.ensures.closed g of)
    c.deref.ensures.value c.deref-2.ensures.value steps.only steps.all in
    subst (λ o. MatchOption o (¬ (IsNotCyclic g)) (λ v. AreRanks g v.items)) c.in-Some.is (c.in_ok-ranks.ensures g are)

pub first_cyclic-requires : goal.first_cyclic-requires
first_cyclic-requires c = record {
  below = steps_low c.args.sorts c.args.productions.now c.deref.result.now c.in_ok-steps.steps.items c.deref-3.result.now c.requires.parts c.deref-3.ensures.value c.in_ok-steps.ensures.same c.in_ok-steps.ensures.only;
}

pub unreachable-requires : goal.unreachable-requires
unreachable-requires c =
    let some = some_grammar c.args.productions.now in
    let g = some.0 in
    let of = some.1 in
    let steps = c.in_ok-steps.ensures in
    let are : (those : List (Vec ℕ Global)) → those ≡ c.in_ok-steps.steps.items → AreStepsOf g those =
    λ those e. steps_are g c.args.productions.now c.in_ok-empty.empty.items c.deref.result.now c.in_ok-steps.steps.items those of (c.in_ok-empty.ensures.empty g of) (c.in_ok-empty.ensures.closed g of)
    c.deref.ensures.value e steps.only steps.all in
    subst (λ o. MatchOption o (¬ (IsNotCyclic g)) (λ v. AreRanks g v.items)) c.in_default.is (c.in_ok-ranks.ensures g (are c.deref-2.result.now c.deref-2.ensures.value))
    (subst (λ o. MatchOption o (IsNotCyclic g) (λ sort. (sort < length c.deref-3.result.now) × IsCyclic g sort × ((other : ℕ) → other < sort → ¬ (IsCyclic g other)))) c.in-None.is
    (c.in_ok-sort.ensures g (are c.deref-3.result.now c.deref-3.ensures.value)))

pub returns : goal.returns
returns c = λ g of.
    let steps = c.in_ok-steps.ensures in
    let are = steps_are g c.args.productions.now c.in_ok-empty.empty.items c.deref.result.now c.in_ok-steps.steps.items c.deref-3.result.now of (c.in_ok-empty.ensures.empty g of) (c.in_ok-empty.ensures.closed g of)
    c.deref.ensures.value c.deref-3.ensures.value steps.only steps.all in
    let found = subst (λ o. MatchOption o (IsNotCyclic g) (λ sort. (sort < length c.deref-3.result.now) × IsCyclic g sort × ((other : ℕ) → other < sort → ¬ (IsCyclic g other)))) c.in-Some-2.is
    (c.in_ok-sort.ensures g are) in
    (omega (arith, found.0, ap length c.deref-3.ensures.value, steps.same), found.1, found.2)
