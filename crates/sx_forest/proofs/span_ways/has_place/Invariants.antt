use Rattle.std.proofs.Common.{◌<◌, ℕ}
use Rattle.sx_forest.specs.Rows.{IsIn, stretch_at}
use Rattle.sx_forest.proofs.span_ways.has_place.Given as goal

abbrev pub invariant-loop-dot : goal.invariant-loop-dot
invariant-loop-dot l = (dot : ℕ) → 0 < dot → dot < l.dot → IsIn (stretch_at l.kept.stretches.items dot) l.place → ⊥
