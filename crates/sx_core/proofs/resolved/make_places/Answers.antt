use Rattle.sx_core.specs.Resolving.{rows_in}
use Rattle.sx_core.proofs.ResolveViews.{places_none, places_more}
use Rattle.std.proofs.Common.{[], map, sym, subst, arith}
use Rattle.std.proofs.lemmas.List.{length-map, take_all}
use Rattle.sx_core.specs.Stated.{AreStatedPlaces}
use Rattle.sx_core.specs.Rows.{place_row}
use Rattle.sx_core.proofs.Exits.{no_memory}
use Rattle.sx_core.proofs.resolved.make_places.Goals as goal

pub returns-in-None : goal.returns-in-None
returns-in-None c = places_none (rows_in c.args.table.now) c.args.rows.now c.loop-i.i c.index-rows-i.result c.loop-i-test.true c.index-rows-i.is c.in-None.ensures

pub loop-i-preserved : goal.loop-i-preserved
loop-i-preserved c = places_more (rows_in c.args.table.now) c.args.rows.now c.loop-i.i c.index-rows-i.result c.loop-i.places.items c.push.new.self.items c.in-Some.place c.loop-i-test.true c.index-rows-i.is c.in_ok-push-in-Some.ensures.items c.loop-i.invariant c.in-Some.ensures

pub loop-i-init : goal.loop-i-init
loop-i-init c = subst (AreStatedPlaces (rows_in c.args.table.now) []) (sym c.new-places.ensures.items) tt

pub make_place-requires : goal.make_place-requires
make_place-requires c = c.requires

pub returns-in_err-push-in-Some : goal.returns-in_err-push-in-Some
returns-in_err-push-in-Some c =
    no_memory c.from_residual.result (λ places. AreStatedPlaces (rows_in c.args.table.now) (map place_row c.args.rows.now) places.items) (AreStatedPlaces (rows_in c.args.table.now) (map place_row c.args.rows.now)) c.from_residual.ensures.1

pub returns : goal.returns
returns c =
    let rows = map place_row c.args.rows.now in
    subst (λ ps. AreStatedPlaces (rows_in c.args.table.now) ps c.loop-i.places.items) (take_all c.loop-i.i rows (omega (arith, length-map c.args.rows.now place_row, c.loop-i-test.false))) c.loop-i.invariant
