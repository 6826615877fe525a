-- What the imports of a module are seen from.
use Rattle.std.specs.Prelude.{◌≡◌, true, false, List, map, Contains}
use Rattle.std.specs.List.{AllByRecursion}
use Rattle.sx_lines.specs.Words.{is_name}
use Rattle.sx_grammar.specs.Grammar.{Text}
use Rattle.sx_grammar.specs.Tables.{literals_of}
use Rattle.sx_interface.specs.Interfaces.{InterfaceParts, MarkData}
use Rattle.sx_interface.specs.InterfaceView.{interface_view, mark_view}
use Rattle.sx_interface.specs.Stated.{IsWithinSize}
use Rattle.sx_typing.specs.Dialects.{DialectData, IsDialectOf, dialect_of}
use Rattle.sx_interface.specs.declared.import.Import.{Import}
use Rattle.sx_environment.specs.declared.surroundings.Surroundings.{Surroundings}
use Rattle.sx_term.specs.Limits.{most_bytes}

-- the dialect, the name of its language with the digest of the language's file, and the names of
-- the extensions in use, in order, with the digests of their files
pub record SeenFrom : Type 0 where
  pub dialect : DialectData
  pub language : MarkData
  pub uses : List MarkData

-- the view of surroundings
abbrev pub seen_from : Surroundings → SeenFrom
seen_from g = record {
  dialect = dialect_of g.dialect;
  language = record { name = g.dialect.language.now.name; digest = g.digest.now.bytes };
  uses = map mark_view g.uses.now;
}

-- the interfaces of imports
abbrev pub interfaces_of : List Import → List InterfaceParts
interfaces_of imports = map (λ i. interface_view i.interface) imports

-- a file can hold the interface: neither the signature and the stated signature nor the list of its
-- uses and imports is longer than a file may be
abbrev pub IsShort : InterfaceParts → Type 0
IsShort it = IsWithinSize most_bytes it

-- the import has a name, which is none of the literals
abbrev pub HasFreeName : List Text → InterfaceParts → Type 0
HasFreeName literals it = (is_name false it.name ≡ true) × ¬ (Contains literals it.name)

-- the conditions of making an environment
pub record CanSee (g : Surroundings) (imports : List Import) : Type 0 where
  pub dialect : IsDialectOf g.dialect
  pub short : AllByRecursion IsShort (interfaces_of imports)
  pub named : AllByRecursion (HasFreeName (literals_of (dialect_of g.dialect).language.parts))
      (interfaces_of imports)
