use Rattle.std.proofs.Common.{subst}
use Rattle.sx_grammar.specs.Order.{IsRanking, rank_at}
use Rattle.sx_grammar.specs.Tables.{GrammarData}
use Rattle.sx_earley.specs.Shown.{plain}
use Rattle.sx_forest.proofs.answer.read_one_by.Goals as goal

pub read_ranked-requires-clause-ranking : goal.read_ranked-requires-clause-ranking
read_ranked-requires-clause-ranking c = subst (λ (d : GrammarData). IsRanking (plain d) (rank_at c.ranks.result.now)) c.grammar-grammar.ensures c.ranks.ensures.ranking
