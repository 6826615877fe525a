use Rattle.std.proofs.Common.{◌≡◌, take, map}
use Rattle.sx_outside.specs.Files.{after_writes}
use Rattle.sx_outside.specs.Told.{Told}
use Rattle.sx_steps.specs.Work.{file_of}
use Rattle.sx_top.proofs.perform.write_files.Given as goal

abbrev pub invariant-loop-i : goal.invariant-loop-i
invariant-loop-i g l = record {
  files : Told (λ old new. new ≡ after_writes (take l.i (map file_of l.files)) old) (g.S.Shelf.content l.initial.shelf) (g.S.Shelf.content l.shelf);
  reads : g.S.Shelf.read_faults l.shelf ≡ g.S.Shelf.read_faults l.initial.shelf;
  writes : g.S.Shelf.write_faults l.shelf ≡ g.S.Shelf.write_faults l.initial.shelf;
}
