use Rattle.std.proofs.Common.{length}
use Rattle.sx_grammar.specs.Ranks.{waiting_at}
use Rattle.sx_grammar.specs.Settled.{Goes}
use Rattle.sx_grammar.proofs.follow.release.Given as goal

abbrev pub invariant-loop-waiting : goal.invariant-loop-waiting
invariant-loop-waiting l = Goes l.rules l.fn.progress l.progress

abbrev pub decreases-loop-waiting : goal.decreases-loop-waiting
decreases-loop-waiting l = length (waiting_at l.progress.waiting.items l.number)
