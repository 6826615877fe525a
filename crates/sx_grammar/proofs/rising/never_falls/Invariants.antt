use Rattle.std.proofs.Common.{ℕ, ◌<◌}
use Rattle.std.specs.Prelude.{slice_index_or}
use Rattle.sx_grammar.specs.Cycles.{list_at, AreFrom}
use Rattle.sx_grammar.proofs.rising.never_falls.Given as goal

abbrev pub invariant-loop-sort : goal.invariant-loop-sort
invariant-loop-sort l = (sort : ℕ) → sort < l.sort → AreFrom l.numbers (slice_index_or l.numbers sort 0) (list_at l.steps sort)
