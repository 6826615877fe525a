use Rattle.sx_plain.specs.Views.{table_of}
use Rattle.sx_expand.proofs.RootPlaces.{PlacesSoFar}
use Rattle.sx_expand.proofs.root_places.root_numbers.Given as goal

abbrev pub invariant-loop-place : goal.invariant-loop-place
invariant-loop-place l = PlacesSoFar (table_of l.table) l.places l.inputs l.read.outputs.items l.read.subject l.initial.reader l.place-index l.given l.made l.reader l.numbers.items
