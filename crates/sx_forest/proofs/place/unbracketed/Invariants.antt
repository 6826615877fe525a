use Rattle.std.proofs.Common.{◌≡◌}
use Rattle.sx_forest.specs.Readings.{plain_reading}
use Rattle.sx_forest.specs.Places.{unbracketed}
use Rattle.sx_forest.proofs.place.unbracketed.Given as goal

abbrev pub invariant-loop-here : goal.invariant-loop-here
invariant-loop-here l = unbracketed (plain_reading l.here) ≡ unbracketed (plain_reading l.reading)
