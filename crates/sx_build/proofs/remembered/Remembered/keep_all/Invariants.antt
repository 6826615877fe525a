use Rattle.std.proofs.Common.{List}
use Rattle.std.specs.List.{AllByRecursion}
use Rattle.sx_build.specs.MadeModules.{Made}
use Rattle.sx_build.specs.Remembering.{remembered_imports, IsOwnImport, Remembers}
use Rattle.sx_build.proofs.remembered.Remembered.keep_all.Given as goal

abbrev pub invariant-loop-import : goal.invariant-loop-import
invariant-loop-import l = (mades : List Made) → Remembers mades (remembered_imports l.initial.self) →
    AllByRecursion (IsOwnImport mades) l.yielded → Remembers mades (remembered_imports l.self)
