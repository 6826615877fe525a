use Rattle.std.proofs.Common.{◌≡◌, drop}
use Rattle.sx_forest.specs.Readings.{plain_reading}
use Rattle.sx_forest.specs.Places.{unbracketed, place_at}
use Rattle.sx_forest.proofs.place.place_of.Given as goal

abbrev pub invariant-loop-step : goal.invariant-loop-step
invariant-loop-step l = record {
  is_bare : unbracketed (plain_reading l.here) ≡ plain_reading l.here;
  place : place_at (plain_reading l.here) (drop l.step-index l.step-items) ≡ place_at (plain_reading l.reading) l.path.steps.items;
}
