-- What is given with imports that were read.
use Rattle.std.proofs.Common.{◌≡◌, ℕ, List, Vec, map}
use Rattle.std.specs.declared.alloc.Global.{Global}
use Rattle.sx_interface.specs.declared.import.Import.{Import}
use Rattle.sx_accepting.specs.ReadLanguage.{Stated}
use Rattle.sx_headers.specs.ReadModule.{Module}
use Rattle.sx_importing.specs.ReadImports.{ImportData, import_of}
use Rattle.sx_compiling.specs.Given.{GivenModule}

-- the data of imports that were read
abbrev pub imports_of : Vec Import Global → List ImportData
imports_of imports = map import_of imports.items

-- what is given
abbrev pub given_with : Module → Stated → (file : List ℕ) → List Import → GivenModule
given_with m l file imports = record {
  file = file;
  read = m;
  language = l;
  imports = map import_of imports;
}

-- of the same file and imports it is the same
pub given_same : (m : Module) (l : Stated) (file name : List ℕ) (given imports : List Import) →
    file ≡ name → given ≡ imports → given_with m l file given ≡ given_with m l name imports
given_same m l file name given imports f g = λ i. given_with m l (f i) (g i)
