-- Interfaces of modules that were made, as they are remembered.
use Rattle.std.specs.Prelude.{◌≡◌, ◌⊎◌, ℕ, List, Some, None, Ok, Contains, if◌then◌else◌}
use Rattle.std.specs.Str.{bytes_eq}
use Rattle.sx_environment.specs.SeenFrom.{IsShort}
use Rattle.sx_importing.specs.ReadImports.{import_of, ReadsImport}
use Rattle.sx_interface.specs.InterfaceView.{interface_view}
use Rattle.sx_outside.specs.Files.{Files}
use Rattle.sx_steps.specs.Unit.{interface_file}
use Rattle.sx_interface.specs.declared.import.Import.{Import}
use Rattle.sx_walking.specs.FileTable.{files_by, IsFilePut}
use Rattle.sx_walking.specs.Reached.{Found}
use Rattle.sx_build.specs.declared.remembered.Remembered.{Remembered}
use Rattle.sx_build.specs.MadeModules.{Made}

-- what is remembered under each name
abbrev pub remembered_imports : Remembered → Found Import
remembered_imports remembered = files_by remembered.imports

-- nothing stands under the name, and under each other name what stood there
abbrev pub IsGone : List ℕ → (old new : Found Import) → Type 0
IsGone name old new = (other : List ℕ) →
    new other ≡ (if bytes_eq name other then None else old other)

-- the interface was put under the name of its module, or all is as before
abbrev pub IsInterfaceKept : Import → (old new : Found Import) → Type 0
IsInterfaceKept i old new = IsFilePut i.interface.«module» i old new
    ⊎ ((name : List ℕ) → new name ≡ old name)

-- The interface is that of the module with this name, which is one of these: it is what is read
-- wherever the text of this one stands in its file.
pub record IsImportOf (mades : List Made) (name : List ℕ) (i : Import) : Type 0 where
  pub made : Made
  pub among : Contains mades made
  pub named : made.name ≡ name
  pub own : i.interface.«module» ≡ name
  pub short : IsShort (interface_view i.interface)
  pub reads : (files : Files) → files (interface_file name) ≡ Some made.interface →
      ReadsImport files name (Ok (import_of i))

-- so under the name that it has
abbrev pub IsOwnImport : List Made → Import → Type 0
IsOwnImport mades i = IsImportOf mades i.interface.«module» i

-- each interface that is remembered is that of one of these modules
abbrev pub Remembers : List Made → Found Import → Type 0
Remembers mades held = (name : List ℕ) (i : Import) → held name ≡ Some i → IsImportOf mades name i
