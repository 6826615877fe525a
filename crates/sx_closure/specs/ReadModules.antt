-- The step that reads the modules of a closure.
use Rattle.std.specs.Prelude.{ℕ, ◌≤◌, List, [], ◌∷◌, length, map, Result}
use Rattle.std.specs.Global.{Vec}
use Rattle.sx_outside.specs.Files.{Files}
use Rattle.sx_term.specs.Limits.{most_bytes}
use Rattle.sx_steps.specs.Steps.{Then}
use Rattle.sx_steps.specs.declared.stop.Stop.{Stop}
use Rattle.sx_walking.specs.Reached.{Reaches}
use Rattle.sx_headers.specs.declared.module_file.ModuleFile.{ModuleFile}
use Rattle.sx_headers.specs.ReadModule.{Module, HasHeader, module_of}
use Rattle.sx_headers.specs.ModuleFiles.{module_file}
use Rattle.sx_closure.specs.ReadImport.{ReadsNamed, ReadsImportedModule}

-- what was read, without where it lies in memory
abbrev pub modules_of : Vec ModuleFile → List Module
modules_of ms = map module_of ms.items

-- the name of a module
abbrev pub module_name : Module → List ℕ
module_name m = m.header.name

-- the names of the modules that it imports, in order
abbrev pub imports_of : Module → List (List ℕ)
imports_of m = m.header.imports

-- the bytes are no more than a file may have, and state the header under the name that it has
pub record IsModuleStated (m : Module) : Type 0 where
  pub short : length m.bytes ≤ most_bytes
  pub headed : HasHeader m.header.name m.bytes m

-- the modules that are reached from the one with this name by `import` lines, all of them with the
-- language; a cycle, and that there are too many, are told of its file
abbrev pub ReachesModules : (language name : List ℕ) → Files → Result (List Module) Stop → Type 0
ReachesModules language name files =
    Reaches imports_of (ReadsImportedModule language files) (module_file name) (name ∷ [])

-- so from the file of the one with this name, whose language all have
abbrev pub ReadsModules : (name : List ℕ) → Files → Result (List Module) Stop → Type 0
ReadsModules name files =
    Then (ReadsNamed files name) (λ m. ReachesModules m.header.language name files)
