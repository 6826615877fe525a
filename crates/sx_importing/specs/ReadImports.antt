-- The steps that read the interfaces of imports.
use Rattle.std.specs.Prelude.{◌≡◌, ℕ, List, Result, Ok}
use Rattle.sha2.specs.Sha256.{sha256}
use Rattle.sx_interface.specs.Interfaces.{InterfaceParts, MarkData}
use Rattle.sx_interface.specs.InterfaceView.{interface_view}
use Rattle.sx_interface.specs.declared.import.Import.{Import}
use Rattle.sx_outside.specs.Files.{Files}
use Rattle.sx_steps.specs.declared.stop.Stop.{Stop}
use Rattle.sx_steps.specs.Steps.{Then}
use Rattle.sx_steps.specs.Unit.{interface_file}
use Rattle.sx_headers.specs.ReadInterface.{ReadsInterface}
use Rattle.sx_importing.specs.Each.{ForEach}

-- an import: its interface, and the digest of the file of that
pub record ImportData : Type 0 where
  pub parts : InterfaceParts
  pub digest : List ℕ

-- the import, without where it lies in memory
abbrev pub import_of : Import → ImportData
import_of i = record { parts = interface_view i.interface; digest = i.digest.bytes }

-- its row in an interface: its name, and the digest of its file
abbrev pub import_mark : ImportData → MarkData
import_mark i = record { name = i.parts.name; digest = i.digest }

-- the interface of the import with this name, with the digest of its bytes
abbrev pub ReadsImport : Files → (name : List ℕ) → Result ImportData Stop → Type 0
ReadsImport files name = Then (ReadsInterface (interface_file name) name files)
    (λ i result. result ≡ Ok (record { parts = i.parts; digest = sha256 i.bytes }))

-- those of all these imports, in order
abbrev pub ReadsImports : Files → (names : List (List ℕ)) → Result (List ImportData) Stop → Type 0
ReadsImports files names = ForEach (ReadsImport files) names
