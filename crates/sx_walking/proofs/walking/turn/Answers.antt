use Rattle.std.specs.Prelude.{Ok, Err}
use Rattle.sx_walking.specs.FileTable.{held_in}
use Rattle.sx_walking.proofs.Turning.{came, turn_whole, turn_stop, turn_entered, turn_unvisited}
use Rattle.sx_walking.proofs.Turning.{visit_as}
use Rattle.sx_walking.proofs.walking.turn.Goals as goal

pub returns-in-Ok-Order-clause-step : goal.returns-in-Ok-Order-clause-step
returns-in-Ok-Order-clause-step g c =
    turn_whole (g.K.WalkedKind.kind c.args.kind.now) (g.S.Shelf.content c.args.shelf.now)
    c.args.file.now c.args.walk (held_in g.K.WalkedKind.says c.args.files.now)
    c.in-Ok-Order.field-0 c.in-Ok-Order.order c.in-Ok-Order.field-0-is c.in-Ok-Order.ensures

pub returns-in-Ok-clause-step : goal.returns-in-Ok-clause-step
returns-in-Ok-clause-step g c =
    let k = g.K.WalkedKind.kind c.args.kind.now in
    let told = g.S.Shelf.content c.args.shelf.now in
    let old = held_in g.K.WalkedKind.says c.args.files.now in
    let new = held_in g.K.WalkedKind.says c.visit.new.files in
    turn_entered k told c.args.file.now c.args.walk old new c.in-Ok-Visit.asked
    (came c.args.walk c.in-Ok-Visit.field-0 c.in-Ok-Visit.asked c.in-Ok-Visit.field-0-is
    c.in-Ok-Visit.ensures) c.in-Ok.names c.enter.result
    (visit_as k told old new c.name.result.now c.in-Ok-Visit.asked.name (Ok c.in-Ok.names)
    c.name.ensures c.in-Ok.ensures.step) c.enter.ensures

pub returns-in-Err-visit-clause-step : goal.returns-in-Err-visit-clause-step
returns-in-Err-visit-clause-step g c =
    let k = g.K.WalkedKind.kind c.args.kind.now in
    let told = g.S.Shelf.content c.args.shelf.now in
    let old = held_in g.K.WalkedKind.says c.args.files.now in
    let new = held_in g.K.WalkedKind.says c.visit.new.files in
    turn_unvisited k told c.args.file.now c.args.walk old new c.in-Ok-Visit.asked
    (came c.args.walk c.in-Ok-Visit.field-0 c.in-Ok-Visit.asked c.in-Ok-Visit.field-0-is
    c.in-Ok-Visit.ensures) c.in-Err-visit.e
    (visit_as k told old new c.name.result.now c.in-Ok-Visit.asked.name (Err c.in-Err-visit.e)
    c.name.ensures c.in-Err-visit.ensures.step)

pub returns-in-Err-clause-step : goal.returns-in-Err-clause-step
returns-in-Err-clause-step g c =
    turn_stop (g.K.WalkedKind.kind c.args.kind.now) (g.S.Shelf.content c.args.shelf.now)
    c.args.file.now c.args.walk (held_in g.K.WalkedKind.says c.args.files.now) c.in-Err.error
    c.stopped.result c.requires c.in-Err.ensures c.stopped.ensures
