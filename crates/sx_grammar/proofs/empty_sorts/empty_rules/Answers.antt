use Rattle.std.proofs.Common.{refl, sym, subst, ◌+◌, length, List, ℕ}
use Rattle.std.specs.Prelude.{MatchOption}
use Rattle.std.proofs.lemmas.Option.{slice_get_read}
use Rattle.sx_grammar.specs.Cycles.{ArePartsOf, AreRulesOf}
use Rattle.sx_grammar.proofs.Ranking.{rule_more, rule_none}
use Rattle.sx_grammar.proofs.empty_sorts.empty_rules.Goals as goal
use Rattle.sx_grammar.proofs.empty_sorts.empty_rules.Goals.{in-Some+in_ok-push, in_default}

pub loop-production-preserved : goal.loop-production-preserved
loop-production-preserved c =
    let ps = c.args.productions.now in
    let n = c.loop-production.production-index in
    let p = c.production-item.result in
    let at = slice_get_read ps (length ps) n p refl c.loop-production-test.true c.production-item.is in
    let value = c.deref.ensures.value in
    elim c.match-branch-2.branch [
      | in-Some+in_ok-push w ↦ subst (λ v. AreRulesOf ps (n + 1) v.items) (sym w.rules-is)
          (rule_more ps n c.loop-production.rules.items w.push.new.self.items p _ c.loop-production.invariant at w.in_ok-push.ensures.items (refl, subst (λ l. ArePartsOf l w.in-Some.needs.items) value (subst (λ o. MatchOption o ((sorts : List ℕ) → ¬ (ArePartsOf c.deref.result.now sorts)) (λ v. ArePartsOf c.deref.result.now v.items)) w.in-Some.is c.in_ok-needs.ensures)))
      | in_default w ↦ subst (λ v. AreRulesOf ps (n + 1) v.items) (sym w.rules-is)
          (rule_none ps n c.loop-production.rules.items p c.loop-production.invariant at (subst (λ l. (sorts : List ℕ) → ¬ (ArePartsOf l sorts)) value (subst (λ o. MatchOption o ((sorts : List ℕ) → ¬ (ArePartsOf c.deref.result.now sorts)) (λ v. ArePartsOf c.deref.result.now v.items)) w.in_default.is c.in_ok-needs.ensures)))
    ]
