use Rattle.sx_walking.specs.FileTable.{table_files, held_in}
use Rattle.sx_walking.proofs.Tables.{there_seen}
use Rattle.sx_walking.proofs.Visits.{visit_held, visit_err}
use Rattle.sx_walking.proofs.visiting.visit.Goals as goal

pub returns-in-Some-clause-step : goal.returns-in-Some-clause-step
returns-in-Some-clause-step g c =
    let says = g.K.WalkedKind.says in
    visit_held (g.K.WalkedKind.kind c.args.kind.now) (g.S.Shelf.content c.args.shelf.now)
    c.args.name.now (held_in says c.args.files.now) (held_in says c.open_file.new.files)
    (says c.in-Some.file.now) c.stands_on.result c.in-Ok.ensures.step
    (there_seen says (table_files c.open_file.new.files) c.args.name.now c.in-Some.file.now
    c.in-Some.ensures) c.stands_on.ensures.step

pub returns-in-Err-clause-step : goal.returns-in-Err-clause-step
returns-in-Err-clause-step g c =
    let says = g.K.WalkedKind.says in
    visit_err (g.K.WalkedKind.kind c.args.kind.now) (g.S.Shelf.content c.args.shelf.now)
    c.args.name.now (held_in says c.args.files.now) (held_in says c.open_file.new.files)
    c.in-Err.e c.requires c.in-Err.ensures.step
