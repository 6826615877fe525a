use Rattle.sx_expand.proofs.Steps.{Stepping}
use Rattle.sx_expand.proofs.ends.after_kids.Given as goal

abbrev pub invariant-loop-premise : goal.invariant-loop-premise
invariant-loop-premise l = Stepping l.premises l.ends l.first l.premise-index l.end
