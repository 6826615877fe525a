use Rattle.std.proofs.Common.{ℕ, ◌<◌}
use Rattle.sx_grammar.specs.declared.head.Head.TheVariants.{Bracketed}
use Rattle.sx_earley.specs.Shown.{plain, tokens_of}
use Rattle.sx_forest.specs.Useful.{IsMetAt}
use Rattle.sx_forest.proofs.wanted.is_met_by_bracketed.Given as goal

abbrev pub invariant-loop-sort : goal.invariant-loop-sort
invariant-loop-sort l = (k : ℕ) → k < l.sort → (dot : ℕ) → IsMetAt (plain l.grammar) (tokens_of l.grammar l.shown) l.place l.levels (Bracketed k) dot
