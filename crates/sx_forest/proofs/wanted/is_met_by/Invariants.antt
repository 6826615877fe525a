use Rattle.std.proofs.Common.{ℕ, ◌<◌}
use Rattle.sx_earley.specs.Shown.{plain, tokens_of}
use Rattle.sx_forest.specs.Useful.{IsMetAt}
use Rattle.sx_forest.proofs.wanted.is_met_by.Given as goal

abbrev pub invariant-loop-dot : goal.invariant-loop-dot
invariant-loop-dot l = (k : ℕ) → k < l.dot → IsMetAt (plain l.grammar) (tokens_of l.grammar l.shown) l.place l.levels l.head k
