use Rattle.std.proofs.Common.{map}
use Rattle.std.specs.List.{AllByRecursion}
use Rattle.sx_outside.specs.Files.{Files}
use Rattle.sx_outside.specs.Views.{clean_files_of}
use Rattle.sx_uses.specs.ExtensionFile.{extension_of}
use Rattle.sx_compiling.specs.KeptFiles.{AreKeptOf, StandsInFile}
use Rattle.sx_compiling.proofs.extensions_reading.keep_extensions.Given as goal

-- what is kept so far are the files in which the extensions stand
abbrev pub invariant-loop-i : goal.invariant-loop-i
invariant-loop-i l = (files : Files) → AreKeptOf (clean_files_of l.initial.kept) files →
    AllByRecursion (StandsInFile files) (map extension_of l.extensions) →
    AreKeptOf (clean_files_of l.kept) files
