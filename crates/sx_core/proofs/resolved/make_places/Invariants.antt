use Rattle.std.proofs.Common.{take, map}
use Rattle.sx_core.specs.Stated.{AreStatedPlaces}
use Rattle.sx_core.specs.Rows.{place_row}
use Rattle.sx_core.specs.Resolving.{rows_in}
use Rattle.sx_core.proofs.resolved.make_places.Given as goal

abbrev pub invariant-loop-i : goal.invariant-loop-i
invariant-loop-i l = AreStatedPlaces (rows_in l.table) (take l.i (map place_row l.rows)) l.places.items
