use Rattle.std.proofs.Common.{◌-◌}
use Rattle.std.specs.Prelude.{Ok}
use Rattle.sx_imports.specs.Progress.{visits}
use Rattle.sx_steps.specs.Stop.{OnlyReads}
use Rattle.sx_walking.specs.FileTable.{held_in}
use Rattle.sx_walking.specs.Opened.{AreOpened}
use Rattle.sx_walking.proofs.Turning.{HasCome}
use Rattle.sx_walking.proofs.walking.walk_files.Given as goal

abbrev pub invariant-loop-next : goal.invariant-loop-next
invariant-loop-next g l = record {
  opened : AreOpened (g.K.WalkedKind.kind l.fn.kind) (g.S.Shelf.content l.initial.shelf)
      (held_in g.K.WalkedKind.says l.files);
  on : HasCome (g.K.WalkedKind.kind l.fn.kind) l.fn.roots.items
      (held_in g.K.WalkedKind.says l.files) l.walk;
  reads : OnlyReads {X = Unit {0}} (g.S.Shelf.content l.initial.shelf)
      (g.S.Shelf.content l.shelf) (g.S.Shelf.read_faults l.initial.shelf)
      (g.S.Shelf.read_faults l.shelf) (g.S.Shelf.write_faults l.initial.shelf)
      (g.S.Shelf.write_faults l.shelf) (Ok tt);
}

abbrev pub decreases-loop-next : goal.decreases-loop-next
decreases-loop-next g l = 256 - visits l.walk
