use Rattle.std.proofs.Common.{◌≡◌, map, take, Some}
use Rattle.sx_grammar.proofs.sort_ranks.all_ranks.Given as goal

abbrev pub invariant-loop-rank : goal.invariant-loop-rank
invariant-loop-rank l = map Some l.out.items ≡ take l.rank-index l.ranks
