use Rattle.std.proofs.Common.{◌<◌, ◌≤◌, ℕ}
use Rattle.sx_earley.specs.Shown.{plain}
use Rattle.sx_forest.specs.declared.entry.Maker.{Maker}
use Rattle.sx_forest.specs.Rows.{FitsPart, IsIn}
use Rattle.sx_forest.specs.Reached.{HasReach, reaches_at}
use Rattle.sx_forest.proofs.spreading.over_part.Given as goal

abbrev pub invariant-loop-place : goal.invariant-loop-place
invariant-loop-place l = (place : ℕ) (m : Maker) (p : ℕ) → l.fn.stretch.first ≤ place → place < l.place →
    HasReach (reaches_at l.table.ends.lists.items place) m p → FitsPart (plain l.grammar) m l.sort l.least → IsIn l.grown p
