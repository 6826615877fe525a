use Rattle.std.proofs.Common.{Option, sym, subst, arith}
use Rattle.sx_outside.specs.Files.{Files}
use Rattle.sx_walking.specs.FileTable.{held_in}
use Rattle.sx_walking.specs.Opened.{AreOpened}
use Rattle.sx_walking.specs.declared.turn.Turn.TheVariants.{On, Whole}
use Rattle.sx_walking.proofs.Turning.{turn_as, come_begin, come_on, opened_on, less_left}
use Rattle.sx_walking.proofs.Turning.{walked_whole, walked_err, reads_more, reads_ok, reads_err}
use Rattle.sx_walking.proofs.Turning.{reads_none}
use Rattle.sx_walking.proofs.walking.walk_files.Goals as goal

pub loop-next-init : goal.loop-next-init
loop-next-init g c = record {
  opened = c.requires;
  on = come_begin (g.K.WalkedKind.kind c.args.kind.now) c.args.roots.items
      (held_in g.K.WalkedKind.says c.args.files.now) c.begin-walk.result c.begin-walk.ensures;
  reads = reads_none _ _ _ tt;
}

pub turn-requires : goal.turn-requires
turn-requires g c =
    subst (λ (s : Option Files). AreOpened (g.K.WalkedKind.kind c.args.kind.now) s
    (held_in g.K.WalkedKind.says c.loop-next.files)) (sym c.loop-next.invariant.reads.content)
    c.loop-next.invariant.opened

pub loop-next-preserved : goal.loop-next-preserved
loop-next-preserved g c =
    let k = g.K.WalkedKind.kind c.args.kind.now in
    let told = g.S.Shelf.content c.args.shelf.now in
    let now = g.S.Shelf.content c.loop-next.shelf in
    let same = c.loop-next.invariant.reads.content in
    let file = c.args.file.now in
    let roots = c.args.roots.items in
    let walk = c.loop-next.walk in
    let next = c.in-Ok-On.next in
    let old = held_in g.K.WalkedKind.says c.loop-next.files in
    let new = held_in g.K.WalkedKind.says c.turn.new.files in
    let step = turn_as k now old new file walk c.in-Ok-On.field-0 (On next) c.in-Ok-On.field-0-is
    c.in-Ok-On.ensures.step in
    record {
      opened = opened_on k told now same file roots old new walk next step;
      on = come_on k told now same file roots old new walk next c.loop-next.invariant.on step;
      reads = reads_more _ _ _ _ _ _ _ _ _ tt _ c.loop-next.invariant.reads
          (reads_ok _ _ _ _ _ _ c.in-Ok-On.field-0 tt c.in-Ok-On.ensures.reads);
    }

pub loop-next-smaller : goal.loop-next-smaller
loop-next-smaller g c =
    let k = g.K.WalkedKind.kind c.args.kind.now in
    let told = g.S.Shelf.content c.args.shelf.now in
    let now = g.S.Shelf.content c.loop-next.shelf in
    let file = c.args.file.now in
    let walk = c.loop-next.walk in
    let next = c.in-Ok-On.next in
    let old = held_in g.K.WalkedKind.says c.loop-next.files in
    let new = held_in g.K.WalkedKind.says c.turn.new.files in
    let step = turn_as k now old new file walk c.in-Ok-On.field-0 (On next) c.in-Ok-On.field-0-is
    c.in-Ok-On.ensures.step in
    let less = less_left k told now c.loop-next.invariant.reads.content file c.args.roots.items old
    new walk next step in
    let few = less.0 in
    let more = less.1 in
    omega arith

pub returns-in-Ok-Whole-clause-step : goal.returns-in-Ok-Whole-clause-step
returns-in-Ok-Whole-clause-step g c =
    let k = g.K.WalkedKind.kind c.args.kind.now in
    let told = g.S.Shelf.content c.args.shelf.now in
    let now = g.S.Shelf.content c.loop-next.shelf in
    let file = c.args.file.now in
    let walk = c.loop-next.walk in
    let order = c.in-Ok-Whole.order in
    let old = held_in g.K.WalkedKind.says c.loop-next.files in
    let new = held_in g.K.WalkedKind.says c.turn.new.files in
    let step = turn_as k now old new file walk c.in-Ok-Whole.field-0 (Whole order)
    c.in-Ok-Whole.field-0-is c.in-Ok-Whole.ensures.step in
    walked_whole k told now c.loop-next.invariant.reads.content file c.args.roots.items old new walk
    order c.loop-next.invariant.opened c.loop-next.invariant.on step

pub returns-in-Ok-Whole-clause-reads : goal.returns-in-Ok-Whole-clause-reads
returns-in-Ok-Whole-clause-reads g c =
    reads_more _ _ _ _ _ _ _ _ _ tt _ c.loop-next.invariant.reads
    (reads_ok _ _ _ _ _ _ c.in-Ok-Whole.field-0 c.in-Ok-Whole.order c.in-Ok-Whole.ensures.reads)

pub returns-in-Err-clause-step : goal.returns-in-Err-clause-step
returns-in-Err-clause-step g c =
    let k = g.K.WalkedKind.kind c.args.kind.now in
    let told = g.S.Shelf.content c.args.shelf.now in
    let now = g.S.Shelf.content c.loop-next.shelf in
    let old = held_in g.K.WalkedKind.says c.loop-next.files in
    let new = held_in g.K.WalkedKind.says c.turn.new.files in
    walked_err k told now c.loop-next.invariant.reads.content c.args.file.now c.args.roots.items old
    new c.loop-next.walk c.in-Err.e c.loop-next.invariant.on c.in-Err.ensures.step

pub returns-in-Err-clause-reads : goal.returns-in-Err-clause-reads
returns-in-Err-clause-reads g c =
    reads_more _ _ _ _ _ _ _ _ _ tt _ c.loop-next.invariant.reads
    (reads_err _ _ _ _ _ _ c.in-Err.e c.in-Err.ensures.reads)
