use Rattle.std.proofs.Common.{◌∙◌, sym}
use Rattle.sx_walking.specs.FileTable.{table_files, held_in}
use Rattle.sx_walking.proofs.Tables.{put_seen, some_seen}
use Rattle.sx_walking.proofs.Visits.{opens_held, opens_new, opens_err}
use Rattle.sx_walking.proofs.visiting.open_file.Goals as goal

pub returns-then-has-clause-step : goal.returns-then-has-clause-step
returns-then-has-clause-step g c =
    let says = g.K.WalkedKind.says in
    opens_held (g.K.WalkedKind.kind c.args.kind.now) (g.S.Shelf.content c.args.shelf.now)
    c.args.name.now (held_in says c.args.files.now) c.requires
    (sym (some_seen says (table_files c.args.files.now c.args.name.now)) ∙ sym c.has.ensures
    ∙ c.if-has.true)

pub returns-in-Ok-put-clause-step : goal.returns-in-Ok-put-clause-step
returns-in-Ok-put-clause-step g c =
    let says = g.K.WalkedKind.says in
    opens_new (g.K.WalkedKind.kind c.args.kind.now) (g.S.Shelf.content c.args.shelf.now)
    c.args.name.now (says c.in-Ok.file) (held_in says c.args.files.now)
    (held_in says c.put.new.self)
    (sym (some_seen says (table_files c.args.files.now c.args.name.now)) ∙ sym c.has.ensures
    ∙ c.if-has.false)
    (record {
      named = c.in-Ok.ensures.named;
      stated = c.in-Ok.ensures.stated;
      read = c.in-Ok.ensures.step;
    }) c.requires
    (put_seen says c.args.name.now c.in-Ok.file (table_files c.args.files.now)
    (table_files c.put.new.self) c.in-Ok-put.ensures)

pub returns-in-Err-clause-step : goal.returns-in-Err-clause-step
returns-in-Err-clause-step g c =
    let says = g.K.WalkedKind.says in
    opens_err (g.K.WalkedKind.kind c.args.kind.now) (g.S.Shelf.content c.args.shelf.now) says
    c.args.name.now (held_in says c.args.files.now) c.in-Err.e
    (sym (some_seen says (table_files c.args.files.now c.args.name.now)) ∙ sym c.has.ensures
    ∙ c.if-has.false) c.in-Err.ensures.step
