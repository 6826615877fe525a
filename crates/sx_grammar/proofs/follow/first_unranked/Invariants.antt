use Rattle.sx_grammar.specs.Ranks.{AreRankedTo}
use Rattle.sx_grammar.proofs.follow.first_unranked.Given as goal

abbrev pub invariant-loop-place : goal.invariant-loop-place
invariant-loop-place l = AreRankedTo l.ranks l.needs l.fn.from → AreRankedTo l.ranks l.needs l.place
