-- What a module is made from.
use Rattle.std.specs.Prelude.{ℕ, List, map}
use Rattle.sha2.specs.Sha256.{sha256}
use Rattle.sx_term.specs.Tree.{Tree}
use Rattle.sx_interface.specs.Interfaces.{InterfaceParts, MarkData}
use Rattle.sx_unit.specs.Modules.{ModuleData}
use Rattle.sx_environment.specs.SeenFrom.{SeenFrom}
use Rattle.sx_uses.specs.ExtensionFile.{Extension}
use Rattle.sx_accepting.specs.ExtendedLanguages.{ExtendedData}
use Rattle.sx_accepting.specs.ReadLanguage.{Stated}
use Rattle.sx_dialects.specs.Dialects.{dialect_in}
use Rattle.sx_headers.specs.ReadModule.{Module}
use Rattle.sx_importing.specs.ReadImports.{ImportData, import_mark}

-- the name of the module's file, what this states, the language that its header names, and its
-- imports, in the order of the header
pub record GivenModule : Type 0 where
  pub file : List ℕ
  pub read : Module
  pub language : Stated
  pub imports : List ImportData

-- the interfaces of the imports
abbrev pub interfaces_in : GivenModule → List InterfaceParts
interfaces_in g = map (λ i. i.parts) g.imports

-- an extension in use, with the digest of its file
abbrev pub use_mark : Extension → MarkData
use_mark x = record { name = x.header.name; digest = sha256 x.bytes }

-- what the imports are seen from: the dialect that the language becomes by these extensions
abbrev pub seen_in : GivenModule → List Extension → ExtendedData → SeenFrom
seen_in g xs x = record {
  dialect = dialect_in g.language.language x;
  language = record { name = g.read.header.language; digest = g.language.digest };
  uses = map use_mark xs;
}

-- the module in the dialect from which its imports are seen, with this environment
abbrev pub module_seen : GivenModule → SeenFrom → (environment : Tree) → ModuleData
module_seen g s environment = record {
  source = record {
    dialect = s.dialect;
    bytes = g.read.bytes;
    header = g.read.header;
    environment = environment;
  };
  digest = s.language.digest;
  uses = s.uses;
  imports = map import_mark g.imports;
}

-- so it is with these extensions
abbrev pub module_in : GivenModule → List Extension → ExtendedData → (environment : Tree) →
    ModuleData
module_in g xs x environment = module_seen g (seen_in g xs x) environment
