use Rattle.std.proofs.Common.{sym, subst, ◌<◌, ◌^◌}
use Rattle.sx_grammar.specs.Parts.{parts, numbered}
use Rattle.sx_grammar.specs.Order.{IsRanking, rank_at}
use Rattle.sx_grammar.proofs.grammar.Grammar.ranks.Goals as goal

pub returns-clause-ranking : goal.returns-clause-ranking
returns-clause-ranking c =
    subst (λ d. IsRanking (numbered d.parts) (rank_at c.deref.result.now)) c.self.view_is
    (subst (λ l. IsRanking (numbered (parts c.self.inside.parts)) (rank_at l)) (sym c.deref.ensures.value) c.self.invariant.ranked.0)

pub returns-clause-low : goal.returns-clause-low
returns-clause-low c = λ sort. subst (λ l. rank_at l sort < 2 ^ 32) (sym c.deref.ensures.value) (c.self.invariant.ranked.1 sort)
