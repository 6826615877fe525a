use Rattle.std.proofs.Common.{◌≡◌, rules, [], map, ap, ◌∙◌}
use Rattle.sx_core.specs.Rows.{place_row}
use Rattle.sx_core.proofs.Wording.{map_last}
use Rattle.sx_core.proofs.RowLaws.{places_more, places_refused}
use Rattle.sx_core.proofs.row_reading.read_places.Goals as goal

pub loop-left-preserved : goal.loop-left-preserved
loop-left-preserved c =
    places_more c.args.text.now (map place_row c.loop-left.places.items) (map place_row c.push.new.self.items) c.loop-left.left.now (place_row c.in-Ok.place) c.in-Ok.rest.now
    (ap (map place_row) c.in_ok-push-in-Ok.ensures.items ∙ map_last place_row c.loop-left.places.items c.in-Ok.place) c.loop-left.invariant c.in-Ok.ensures

pub returns-in-Err : goal.returns-in-Err
returns-in-Err c =
    let left : c.loop-left.left.now ≡ [] → ⊥ = search rules in
    places_refused c.args.text.now (map place_row c.loop-left.places.items) c.loop-left.left.now c.in-Err.e c.loop-left.invariant left c.in-Err.ensures
