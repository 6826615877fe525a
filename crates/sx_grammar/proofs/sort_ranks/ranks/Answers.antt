use Rattle.std.proofs.Common.{◌≡◌, sym, subst, length, map, Some}
use Rattle.std.specs.Prelude.{MatchOption}
use Rattle.std.proofs.lemmas.Result.{IfOk-weaker}
use Rattle.sx_grammar.specs.Grammar.{Grammar}
use Rattle.sx_grammar.specs.Cyclic.{IsNotCyclic}
use Rattle.sx_grammar.specs.Order.{AreRanks}
use Rattle.sx_grammar.specs.Ranks.{IsFounded, IsComplete, AreRulesBelow}
use Rattle.sx_grammar.specs.Cycles.{AreStepsOf, LacksRank}
use Rattle.sx_grammar.proofs.Ranking.{step_rules_below, ranks_are}
use Rattle.sx_grammar.proofs.sort_ranks.ranks.Goals as goal

pub follow-requires : goal.follow-requires
follow-requires c = subst (AreRulesBelow (length c.args.steps.now)) (sym c.deref.ensures.value) (step_rules_below c.args.steps.now c.in_ok-rules.rules.items c.requires.below c.in_ok-rules.ensures)

pub returns : goal.returns
returns c =
    let lists = c.args.steps.now in
    let rules = c.in_ok-rules.rules.items in
    let found = c.in_ok-found.found.items in
    let founded = subst (λ l. IsFounded l found) c.deref.ensures.value c.in_ok-found.ensures.founded in
    let complete = subst (λ l. IsComplete l found) c.deref.ensures.value c.in_ok-found.ensures.complete in
    IfOk-weaker c.all_ranks.result (λ r. MatchOption r (LacksRank c.deref-2.result.now) (λ v. map Some v.items ≡ c.deref-2.result.now))
    (λ r. (g : Grammar) → AreStepsOf g lists → MatchOption r (¬ (IsNotCyclic g)) (λ v. AreRanks g v.items))
    (λ r is g are. ranks_are g lists rules found are c.requires.below c.in_ok-rules.ensures c.requires.few c.in_ok-found.ensures.size c.in_ok-found.ensures.low founded complete r
    (subst (λ l. MatchOption r (LacksRank l) (λ v. map Some v.items ≡ l)) c.deref-2.ensures.value is)) c.all_ranks.ensures
