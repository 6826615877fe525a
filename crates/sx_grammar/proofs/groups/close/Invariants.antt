use Rattle.std.proofs.Common.{length}
use Rattle.sx_grammar.proofs.groups.close.Given as goal

abbrev pub decreases-loop-last : goal.decreases-loop-last
decreases-loop-last l = length l.walk.left.items
