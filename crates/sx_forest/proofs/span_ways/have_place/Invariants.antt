use Rattle.std.proofs.Common.{◌≡◌, ◌<◌, ℕ, Some}
use Rattle.std.specs.List.{slice_get}
use Rattle.sx_forest.specs.declared.kept.Kept.{Kept}
use Rattle.sx_forest.specs.KeptRows.{IsClear}
use Rattle.sx_forest.proofs.span_ways.have_place.Given as goal

abbrev pub invariant-loop-index : goal.invariant-loop-index
invariant-loop-index l = (i : ℕ) (k : Kept) → i < l.index → slice_get l.kept i ≡ Some k → IsClear l.place k
