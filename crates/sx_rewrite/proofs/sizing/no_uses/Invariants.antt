use Rattle.sx_rewrite.proofs.Noted.{UsesSoFar}
use Rattle.sx_rewrite.proofs.sizing.no_uses.Given as goal

abbrev pub invariant-loop-premise : goal.invariant-loop-premise
invariant-loop-premise l = UsesSoFar l.premises l.premise-index l.uses.items
