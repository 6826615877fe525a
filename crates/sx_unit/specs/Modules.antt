-- What a module is compiled from.
use Rattle.std.specs.Prelude.{ℕ, List, map}
use Rattle.sx_interface.specs.Interfaces.{MarkData}
use Rattle.sx_interface.specs.InterfaceView.{mark_view}
use Rattle.sx_typing.specs.BodySource.{BodySource, source_of}
use Rattle.sx_interface.specs.declared.import.Import.{Import}
use Rattle.sx_unit.specs.declared.module_source.ModuleSource.{ModuleSource}

-- the source in its dialect, the digest of the language's file, and the names of the extensions in
-- use and of the imports, each with the digest of its file
pub record ModuleData : Type 0 where
  pub source : BodySource
  pub digest : List ℕ
  pub uses : List MarkData
  pub imports : List MarkData

-- an import as its row in an interface: its name, and the digest of its file
abbrev pub mark : Import → MarkData
mark i = record { name = i.interface.module; digest = i.digest.bytes }

-- the view of what a module is compiled from
abbrev pub module_data : ModuleSource → ModuleData
module_data m = record {
  source = source_of m.source;
  digest = m.digest.now.bytes;
  uses = map mark_view m.uses.now;
  imports = map mark m.imports.now;
}
