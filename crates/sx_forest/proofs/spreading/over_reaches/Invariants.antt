use Rattle.std.proofs.Common.{◌≡◌, ◌<◌, ℕ, Some}
use Rattle.std.specs.List.{slice_get}
use Rattle.sx_earley.specs.Shown.{plain}
use Rattle.sx_forest.specs.declared.reach.Reach.{Reach}
use Rattle.sx_forest.specs.Rows.{FitsPart, IsIn}
use Rattle.sx_forest.proofs.spreading.over_reaches.Given as goal

abbrev pub invariant-loop-reach : goal.invariant-loop-reach
invariant-loop-reach l = record {
  kept : (p : ℕ) → IsIn l.fn.stretch p → IsIn l.grown p;
  over : (i : ℕ) (r : Reach) (p : ℕ) → i < l.reach-index → slice_get l.reaches i ≡ Some r → FitsPart (plain l.grammar) r.maker l.sort l.least → IsIn r.places p → IsIn l.grown p;
}
