use Rattle.std.proofs.Common.{length, map}
use Rattle.sx_core.specs.Rows.{place_row}
use Rattle.sx_core.proofs.RowLaws.{PlacesSoFar}
use Rattle.sx_core.proofs.row_reading.read_places.Given as goal

abbrev pub invariant-loop-left : goal.invariant-loop-left
invariant-loop-left l = PlacesSoFar l.text (map place_row l.places.items) l.left

abbrev pub decreases-loop-left : goal.decreases-loop-left
decreases-loop-left l = length l.left
