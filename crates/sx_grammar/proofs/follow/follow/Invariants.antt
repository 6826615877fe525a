use Rattle.std.proofs.Common.{◌-◌}
use Rattle.sx_grammar.proofs.Settling.{FollowsTo}
use Rattle.sx_grammar.proofs.follow.follow.Given as goal

abbrev pub invariant-loop-next : goal.invariant-loop-next
invariant-loop-next l = FollowsTo l.rules l.bound l.next l.progress

abbrev pub decreases-loop-next : goal.decreases-loop-next
decreases-loop-next l = l.bound - l.next
