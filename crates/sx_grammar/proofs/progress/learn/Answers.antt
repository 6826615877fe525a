use Rattle.std.proofs.Common.{refl, sym, subst, ap, ◌∙◌, inr, Some, arith}
use Rattle.std.specs.Prelude.{set}
use Rattle.std.proofs.lemmas.Bool.{false≢true}
use Rattle.sx_grammar.specs.Ranks.{HasRank}
use Rattle.sx_grammar.proofs.Settling.{unranked}
use Rattle.sx_grammar.proofs.progress.learn.Goals as goal

pub returns-in_ok-push : goal.returns-in_ok-push
returns-in_ok-push c =
    let ranks = c.args.progress.now.ranks.items in
    let none = unranked ranks c.args.number (λ has. false≢true (sym c.if-not-has_rank.true ∙ c.has_rank.ensures.1 (subst (λ r. HasRank r c.args.number) (sym c.deref.ensures.value) has))) in
    (refl, inr (none, ap (λ n. set ranks c.args.number (Some n)) (omega (arith, c.len-rank.ensures, c.args.progress.now.order.ok.0)), c.in_ok-push.ensures.items))
