-- What is given, as what is seen and compiled.
use Rattle.std.proofs.Common.{◌≡◌, ℕ, List}
use Rattle.sx_term.specs.Tree.{Tree}
use Rattle.sx_interface.specs.declared.headers.Header as headers
use Rattle.sx_interface.specs.HeaderView.{header_view}
use Rattle.sx_interface.specs.Interfaces.{MarkData}
use Rattle.sx_typing.specs.Dialects.{DialectData}
use Rattle.sx_unit.specs.Modules.{ModuleData}
use Rattle.sx_environment.specs.SeenFrom.{SeenFrom}

-- what imports are seen from
abbrev pub seen_with : DialectData → (name digest : List ℕ) → List MarkData → SeenFrom
seen_with d name digest uses = record {
  dialect = d;
  language = record { name = name; digest = digest };
  uses = uses;
}

-- of the same parts it is the same
pub seen_same : (d e : DialectData) (name other digest : List ℕ) (uses marks : List MarkData) →
    d ≡ e → name ≡ other → uses ≡ marks →
    seen_with d name digest uses ≡ seen_with e other digest marks
seen_same d e name other digest uses marks s n u = λ i. seen_with (s i) (n i) digest (u i)

-- a module
abbrev pub module_with : SeenFrom → (bytes : List ℕ) → headers.Header → Tree → List MarkData →
    ModuleData
module_with s bytes h environment imports = record {
  source = record {
    dialect = s.dialect;
    bytes = bytes;
    header = header_view bytes h;
    environment = environment;
  };
  digest = s.language.digest;
  uses = s.uses;
  imports = imports;
}

-- of the same bytes and imports it is the same
pub module_same : (s : SeenFrom) (given bytes : List ℕ) (h : headers.Header) (t : Tree)
    (imports marks : List MarkData) → given ≡ bytes → imports ≡ marks →
    module_with s given h t imports ≡ module_with s bytes h t marks
module_same s given bytes h t imports marks b m = λ i. module_with s (b i) h t (m i)
