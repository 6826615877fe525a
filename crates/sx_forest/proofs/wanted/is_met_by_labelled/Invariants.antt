use Rattle.std.proofs.Common.{ℕ, ◌<◌}
use Rattle.sx_grammar.specs.declared.head.Head.TheVariants.{Labelled}
use Rattle.sx_earley.specs.Shown.{plain, tokens_of}
use Rattle.sx_forest.specs.Useful.{IsMetAt}
use Rattle.sx_forest.proofs.wanted.is_met_by_labelled.Given as goal

abbrev pub invariant-loop-label : goal.invariant-loop-label
invariant-loop-label l = (k : ℕ) → k < l.label → (dot : ℕ) → IsMetAt (plain l.grammar) (tokens_of l.grammar l.shown) l.place l.levels (Labelled k) dot
