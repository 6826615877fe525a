use Rattle.std.proofs.Common.{◌∙◌, List, ap, sym, subst, map}
use Rattle.sx_imports.specs.Walk.{Name}
use Rattle.sx_walking.specs.FileTable.{table_files, held_in}
use Rattle.sx_walking.specs.Opened.{AreOnce, AreFilesHeld, imports_for}
use Rattle.sx_walking.proofs.FewFiles.{few_files}
use Rattle.sx_walking.proofs.Orders.{order_once, order_held, files_held, taken_seen, read_whole}
use Rattle.sx_walking.proofs.Orders.{read_sound, whole_stated, read_stop}
use Rattle.sx_walking.proofs.Visits.{begun_opened}
use Rattle.sx_walking.proofs.reading.read_reached.Goals as goal

pub walk_files-requires : goal.walk_files-requires
walk_files-requires g c =
    begun_opened (g.K.WalkedKind.kind c.args.kind.now) (g.S.Shelf.content c.args.shelf.now)
    g.K.WalkedKind.says c.args.held (held_in g.K.WalkedKind.says c.in_ok-files.files)
    c.in_ok-files.ensures c.requires.stated c.requires.held

pub take_files-requires-clause-once : goal.take_files-requires-clause-once
take_files-requires-clause-once g c =
    subst (λ (l : List Name). AreOnce l) (sym c.deref.ensures.value)
    (order_once (g.K.WalkedKind.kind c.args.kind.now)
    (held_in g.K.WalkedKind.says c.walk_files.new.files) c.args.roots.items c.in-Ok.order.items
    c.in-Ok.ensures.step.1)

pub take_files-requires-clause-held : goal.take_files-requires-clause-held
take_files-requires-clause-held g c =
    let held = table_files c.walk_files.new.files in
    subst (λ (l : List Name). AreFilesHeld held l) (sym c.deref.ensures.value)
    (files_held g.K.WalkedKind.says held c.in-Ok.order.items
    (order_held (g.K.WalkedKind.kind c.args.kind.now)
    (held_in g.K.WalkedKind.says c.walk_files.new.files) c.args.roots.items c.in-Ok.order.items
    c.in-Ok.ensures.step.1))

pub returns-in-Ok-clause-step : goal.returns-in-Ok-clause-step
returns-in-Ok-clause-step g c =
    let held = table_files c.walk_files.new.files in
    let taken = c.in_ok-take_files-in-Ok.field-0 in
    read_whole (g.K.WalkedKind.kind c.args.kind.now) (g.S.Shelf.content c.args.shelf.now)
    c.args.file.now c.args.roots.items (held_in g.K.WalkedKind.says c.walk_files.new.files)
    c.in-Ok.order (map g.K.WalkedKind.says taken.items) c.in-Ok.ensures.step
    (taken_seen g.K.WalkedKind.says held c.in-Ok.order.items taken.items
    (c.in_ok-take_files-in-Ok.ensures
    ∙ ap (λ (l : List Name). map held l) c.deref.ensures.value))

pub returns-in-Ok-clause-sound : goal.returns-in-Ok-clause-sound
returns-in-Ok-clause-sound g c =
    let held = table_files c.walk_files.new.files in
    let taken = c.in_ok-take_files-in-Ok.field-0 in
    read_sound (g.K.WalkedKind.kind c.args.kind.now) (g.S.Shelf.content c.args.shelf.now)
    c.args.file.now c.args.roots.items (held_in g.K.WalkedKind.says c.walk_files.new.files)
    c.in-Ok.order (map g.K.WalkedKind.says taken.items) c.in-Ok.ensures.step
    (taken_seen g.K.WalkedKind.says held c.in-Ok.order.items taken.items
    (c.in_ok-take_files-in-Ok.ensures
    ∙ ap (λ (l : List Name). map held l) c.deref.ensures.value))

pub returns-in-Ok-clause-stated : goal.returns-in-Ok-clause-stated
returns-in-Ok-clause-stated g c =
    let held = table_files c.walk_files.new.files in
    let taken = c.in_ok-take_files-in-Ok.field-0 in
    whole_stated (g.K.WalkedKind.kind c.args.kind.now) (g.S.Shelf.content c.args.shelf.now)
    c.args.file.now c.args.roots.items (held_in g.K.WalkedKind.says c.walk_files.new.files)
    c.in-Ok.order (map g.K.WalkedKind.says taken.items) c.in-Ok.ensures.step
    (taken_seen g.K.WalkedKind.says held c.in-Ok.order.items taken.items
    (c.in_ok-take_files-in-Ok.ensures
    ∙ ap (λ (l : List Name). map held l) c.deref.ensures.value))

pub returns-clause-step : goal.returns-clause-step
returns-clause-step g c =
    read_stop (g.K.WalkedKind.kind c.args.kind.now) (g.S.Shelf.content c.args.shelf.now)
    c.args.file.now c.args.roots.items (held_in g.K.WalkedKind.says c.walk_files.new.files)
    g.K.WalkedKind.says c.in-Err.e c.in-Err.ensures.step

pub returns-in-Ok-clause-few : goal.returns-in-Ok-clause-few
returns-in-Ok-clause-few g c =
    let held = table_files c.walk_files.new.files in
    few_files
    (imports_for (g.K.WalkedKind.kind c.args.kind.now)
    (held_in g.K.WalkedKind.says c.walk_files.new.files))
    c.args.roots.items c.in-Ok.order.items held c.in_ok-take_files-in-Ok.field-0.items
    c.in-Ok.ensures.step.1
    (c.in_ok-take_files-in-Ok.ensures
    ∙ ap (λ (l : List Name). map held l) c.deref.ensures.value)
