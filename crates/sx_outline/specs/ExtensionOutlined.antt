-- What an extension file states line by line, or its first bad line.
use Rattle.std.specs.Prelude.{◌≡◌, ℕ, false, List, [], map, Result, Ok, Err}
use Rattle.std.specs.Str.{IsUtf8}
use Rattle.std.specs.Str.Lossy.{utf8_valid_len}
use Rattle.sx_lines.specs.Lines.{Lines, lines_from}
use Rattle.sx_lines.specs.declared.kind.Kind.TheVariants.{Unfinished}
use Rattle.sx_grammar.specs.Parts.{Line, line}
use Rattle.sx_grammar.specs.declared.sort_line.SortLine.{SortLine}
use Rattle.sx_directives.specs.declared.file_kind.FileKind.TheVariants as files
use Rattle.sx_directives.specs.declared.rows.VarLine.{VarLine}
use Rattle.sx_outline.specs.declared.extension_outline.ExtensionOutline.{ExtensionOutline}
use Rattle.sx_outline.specs.declared.outline_error.OutlineError.{OutlineError}
use Rattle.sx_outline.specs.declared.outline_error.OutlineError.TheVariants.{Memory, NotUtf8}
use Rattle.sx_outline.specs.declared.outline_error.OutlineError.TheVariants.{Notation}
use Rattle.sx_outline.specs.Declarations.{Declared, declared_before}
use Rattle.sx_outline.specs.Headers.{HeaderData, header, IsHeader}
use Rattle.sx_outline.specs.Known.{Declares, kept_lines}
use Rattle.sx_outline.specs.Stages.{PlainData, plain_data, RuleData, rule_data, State, start_after}
use Rattle.sx_outline.specs.Stages.{IsWhole, IsInside}
use Rattle.sx_outline.specs.Outcomes.{IsReadingOutcome}

-- an outline of an extension as plain data
pub record ExtensionOutlineData : Type 0 where
  pub header : HeaderData
  pub productions : List Line
  pub vars : List VarLine
  pub plains : List PlainData
  pub rules : List RuleData

-- what an outline of an extension holds, without its memory
abbrev pub extension_outline : ExtensionOutline → ExtensionOutlineData
extension_outline o = record {
  header = header o.header;
  productions = map line o.productions.items;
  vars = o.vars.items;
  plains = map plain_data o.plains.items;
  rules = map rule_data o.rules.items;
}

-- what a file with this outline declares, where its language has these sorts
abbrev pub extension_declares : List SortLine → ExtensionOutlineData → Declared
extension_declares sorts o =
    record {
      sorts = sorts;
      productions = o.productions;
      vars = o.vars;
      forms = [];
      mains = [];
      uses = o.header.uses;
    }

-- the outline has the header, what was declared, the plain pairs and the rules
pub record IsExtensionOutlineOf (sorts : List SortLine) (h : HeaderData) (s : State)
    (o : ExtensionOutlineData) : Type 0 where
  pub header : o.header ≡ h
  pub declared : s.declared ≡ extension_declares sorts o
  pub plains : s.plains ≡ o.plains
  pub rules : s.rules ≡ o.rules

-- what comes of a state where no line is left
abbrev pub IsExtensionEnd : List SortLine → HeaderData → State →
    Result ExtensionOutlineData OutlineError → Type 0
IsExtensionEnd sorts h s (Ok o) = IsWhole s.stage × IsExtensionOutlineOf sorts h s o
IsExtensionEnd sorts h s (Err (Notation number Unfinished)) = IsInside s.stage number
IsExtensionEnd sorts h s (Err _) = ⊥

-- what comes of the lines after a header, where the language has these sorts and stems
pub record AreReadAfter (sorts : List SortLine) (vars : List VarLine) (h : HeaderData)
    (lines : Lines) (result : Result ExtensionOutlineData OutlineError) : Type 0 where
  pub known : Declared
  pub declares : Declares files.Extension false (declared_before sorts vars h.uses) lines known
  pub outcome : IsReadingOutcome files.Extension known h.name
      (start_after (declared_before sorts vars h.uses)) lines
      (λ s end. IsExtensionEnd sorts h s result) (λ number bad. result ≡ Err (Notation number bad))

-- what comes of the bytes of an extension file, which are UTF-8, where the language has these sorts
-- and stems
abbrev pub IsExtensionReadAs : List SortLine → List VarLine → (bytes : List ℕ) →
    Result ExtensionOutlineData OutlineError → Type 0
IsExtensionReadAs sorts vars bytes result =
    IsUtf8 bytes
    × IsHeader (kept_lines (lines_from 1 bytes)) (λ h lines. AreReadAfter sorts vars h lines result)
    (λ number bad. result ≡ Err (Notation number bad))

-- what the bytes of an extension file state, or why they state nothing
abbrev pub IsExtensionAnswer : List SortLine → List VarLine → (bytes : List ℕ) →
    Result ExtensionOutlineData OutlineError → Type 0
IsExtensionAnswer sorts vars bytes (Ok o) = IsExtensionReadAs sorts vars bytes (Ok o)
IsExtensionAnswer sorts vars bytes (Err Memory) = Unit {0}
IsExtensionAnswer sorts vars bytes (Err (NotUtf8 place)) =
    (IsUtf8 bytes → ⊥) × (place ≡ utf8_valid_len bytes)
IsExtensionAnswer sorts vars bytes (Err (Notation number bad)) =
    IsExtensionReadAs sorts vars bytes (Err (Notation number bad))

-- what reading an extension file answers
abbrev pub IsExtensionOutlined : List SortLine → List VarLine → (bytes : List ℕ) →
    Result ExtensionOutline OutlineError → Type 0
IsExtensionOutlined sorts vars bytes (Ok o) =
    IsExtensionAnswer sorts vars bytes (Ok (extension_outline o))
IsExtensionOutlined sorts vars bytes (Err e) = IsExtensionAnswer sorts vars bytes (Err e)
