use Rattle.std.proofs.Common.{map}
use Rattle.std.specs.List.{AllByRecursion}
use Rattle.sx_outside.specs.Files.{Files}
use Rattle.sx_environment.specs.SeenFrom.{IsShort, interfaces_of}
use Rattle.sx_importing.specs.ReadImports.{import_of, ReadsImport}
use Rattle.sx_importing.proofs.EachLoops.{GoesOn, Have}
use Rattle.sx_build.specs.Buildings.{mades_view}
use Rattle.sx_build.specs.MadeModules.{with_made}
use Rattle.sx_build.specs.Remembering.{remembered_imports, IsOwnImport, Remembers}
use Rattle.sx_build.proofs.imports_made.imports_made.Given as goal

-- what comes of the names that are left comes of all; the interfaces so far are short, have their
-- names and are those of modules that were made, as are those that are remembered
abbrev pub invariant-loop-i : goal.invariant-loop-i
invariant-loop-i l = record {
  step : (files : Files) → GoesOn (ReadsImport (with_made (mades_view l.mades) files)) l.names
      (map import_of l.imports.items) l.i;
  short : AllByRecursion IsShort (interfaces_of l.imports.items);
  names : Have l.names (map (λ it. it.name) (interfaces_of l.imports.items)) l.i;
  own : AllByRecursion (IsOwnImport (mades_view l.mades)) l.imports.items;
  remembers : Remembers (mades_view l.mades) (remembered_imports l.remembered);
}
