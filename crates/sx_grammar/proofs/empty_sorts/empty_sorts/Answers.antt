use Rattle.std.proofs.Common.{sym, subst, ◌∙◌, ◌≡◌, ap, map, length}
use Rattle.std.specs.Prelude.{is_some}
use Rattle.std.proofs.lemmas.Result.{IfOk-weaker}
use Rattle.sx_grammar.specs.Grammar.{Grammar}
use Rattle.sx_grammar.specs.Numbered.{AreOf}
use Rattle.sx_grammar.specs.Ranks.{IsFounded, IsComplete}
use Rattle.sx_grammar.specs.Cycles.{AreRulesOf, AreEmptySorts, IsClosed}
use Rattle.sx_grammar.proofs.Ranking.{rules_below, empty_marked, closed_marked}
use Rattle.sx_grammar.proofs.empty_sorts.empty_sorts.Goals as goal

pub follow-requires : goal.follow-requires
follow-requires c =
    let ps = c.args.productions.now in
    rules_below c.args.sorts ps c.deref.result.now c.requires.heads c.requires.parts (subst (AreRulesOf ps (length ps)) (sym c.deref.ensures.value) c.in_ok-rules.ensures)

pub returns-clause-empty : goal.returns-clause-empty
returns-clause-empty c =
    let ps = c.args.productions.now in
    IfOk-weaker c.marks.result (λ v. v.items ≡ map is_some c.deref-2.result.now) (λ v. (g : Grammar) → AreOf g ps → AreEmptySorts g v.items)
    (λ v e g of. subst (AreEmptySorts g) (sym (e ∙ ap (map is_some) c.deref-2.ensures.value))
    (empty_marked g ps of c.in_ok-rules.rules.items c.in_ok-rules.ensures c.in_ok-ranks.ranks.items (subst (λ l. IsFounded l c.in_ok-ranks.ranks.items) c.deref.ensures.value c.in_ok-ranks.ensures.founded)))
    c.marks.ensures

pub returns-clause-closed : goal.returns-clause-closed
returns-clause-closed c =
    let ps = c.args.productions.now in
    IfOk-weaker c.marks.result (λ v. v.items ≡ map is_some c.deref-2.result.now) (λ v. (g : Grammar) → AreOf g ps → IsClosed g v.items)
    (λ v e g of. subst (IsClosed g) (sym (e ∙ ap (map is_some) c.deref-2.ensures.value))
    (closed_marked g ps of c.in_ok-rules.rules.items c.in_ok-rules.ensures c.in_ok-ranks.ranks.items (subst (λ l. IsComplete l c.in_ok-ranks.ranks.items) c.deref.ensures.value c.in_ok-ranks.ensures.complete)))
    c.marks.ensures
