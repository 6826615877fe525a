-- The step that reads the files of extensions along their `use` lines.
use Rattle.std.specs.Prelude.{ℕ, List, Result}
use Rattle.sx_outside.specs.Files.{Files}
use Rattle.sx_steps.specs.declared.stop.Stop.{Stop}
use Rattle.sx_uses.specs.ExtensionFile.{Extension, used_names}
use Rattle.sx_uses.specs.ReadExtension.{ReadsExtension}
use Rattle.sx_walking.specs.Reached.{Reaches}

-- the extensions that are reached from the roots by `use` lines, all of them written for the
-- language; a cycle, and that there are too many, are told of the file
abbrev pub ReadsUses : (file language : List ℕ) → (roots : List (List ℕ)) → Files →
    Result (List Extension) Stop → Type 0
ReadsUses file language roots files =
    Reaches used_names (ReadsExtension language files) file roots
