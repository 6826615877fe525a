use Rattle.std.proofs.Common.{◌≡◌, map}
use Rattle.std.specs.List.{AllByRecursion}
use Rattle.sx_interface.specs.InterfaceView.{mark_view}
use Rattle.sx_environment.specs.SeenFrom.{IsShort, interfaces_of}
use Rattle.sx_outside.specs.Told.{WhereTold}
use Rattle.sx_importing.proofs.EachLoops.{GoesOn, Have}
use Rattle.sx_verify.specs.BaseFits.{mark_names}
use Rattle.sx_verify.specs.KeptImports.{ReadsKept}
use Rattle.sx_verify.proofs.kept_imports.read_all_kept.Given as goal

-- what comes of the imports that are left comes of all; those that were read are short and have
-- their names, and no read failed
abbrev pub invariant-loop-i : goal.invariant-loop-i
invariant-loop-i g l = record {
  step : WhereTold (g.S.Shelf.content l.initial.shelf)
      (λ files. GoesOn (ReadsKept l.file files) (map mark_view l.marks)
      (interfaces_of l.imports.items) l.i);
  short : AllByRecursion IsShort (interfaces_of l.imports.items);
  names : Have (mark_names (map mark_view l.marks))
      (map (λ it. it.name) (interfaces_of l.imports.items)) l.i;
  content : g.S.Shelf.content l.shelf ≡ g.S.Shelf.content l.initial.shelf;
  reads : g.S.Shelf.read_faults l.shelf ≡ g.S.Shelf.read_faults l.initial.shelf;
  writes : g.S.Shelf.write_faults l.shelf ≡ g.S.Shelf.write_faults l.initial.shelf;
}
