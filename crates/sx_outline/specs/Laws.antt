-- What holds of language and extension files.
use Rattle.std.specs.Prelude.{◌≡◌, ◌≢◌, ℕ, false, List, [], ◌∷◌, ◌++◌, Result, Ok, Err}
use Rattle.std.specs.Str.{IsUtf8}
use Rattle.sx_lines.specs.Lines.{lines_from}
use Rattle.sx_lines.specs.declared.kind.Kind.{Kind}
use Rattle.sx_directives.specs.Spelling.{IsModuleName, IsName}
use Rattle.sx_directives.specs.declared.file_kind.FileKind.TheVariants as files
use Rattle.sx_directives.specs.declared.rows.MainLine.{MainLine}
use Rattle.sx_outline.specs.declared.outline_error.OutlineError.{OutlineError}
use Rattle.sx_outline.specs.declared.outline_error.OutlineError.TheVariants.{Memory, Notation}
use Rattle.sx_outline.specs.Declarations.{Declared, declared_before, nothing}
use Rattle.sx_outline.specs.Known.{Declares, kept_lines}
use Rattle.sx_outline.specs.Outlined.{OutlineData, declared_by, IsOutlineAnswer}
use Rattle.sx_outline.specs.Headers.{HeaderData, IsHeaderAnswer}
use Rattle.sx_grammar.specs.declared.sort_line.SortLine.{SortLine}
use Rattle.sx_directives.specs.declared.rows.VarLine.{VarLine}
use Rattle.sx_outline.specs.ExtensionOutlined.{ExtensionOutlineData, IsExtensionAnswer}
use Rattle.sx_outline.specs.Stages.{Numbered}
use Rattle.sx_outline.specs.Structure.{numbered_lines, AreOutlineLines, AreHeaderLines}
use Rattle.sx_outline.specs.Structure.{AreExtensionLines}
use Rattle.sx_outline.specs.BadLines.{AreLanguageLines, IsLanguageRefused}
use Rattle.sx_outline.specs.BadExtensions.{AreWhole, HaveHeader, IsExtensionRefused}
use Rattle.sx_outline.specs.BadExtensions.{IsHeaderRefused}

-- the lines that a file with an outline keeps are the first line, those of the declarations, and
-- those of the rules
abbrev pub OutlinesHaveLines : Type 0
OutlinesHaveLines = (name bytes : List ℕ) (o : OutlineData) → IsOutlineAnswer name bytes (Ok o) →
    AreOutlineLines name (numbered_lines (kept_lines (lines_from 1 bytes))) o

-- lines that are those of an outline state it
abbrev pub LinesHaveOutlines : Type 0
LinesHaveOutlines =
    (name bytes : List ℕ) (o : OutlineData) → IsUtf8 bytes →
    AreOutlineLines name (numbered_lines (kept_lines (lines_from 1 bytes))) o →
    IsOutlineAnswer name bytes (Ok o)

-- two headers of the bytes of an extension file agree, out of memory aside
abbrev pub OneHeaderAnswer : Type 0
OneHeaderAnswer =
    (name bytes : List ℕ) (a b : Result HeaderData OutlineError) → IsHeaderAnswer name bytes a →
    IsHeaderAnswer name bytes b → (a ≢ Err Memory) → (b ≢ Err Memory) → a ≡ b

-- two answers for the bytes of a language file agree, out of memory aside
abbrev pub OneOutlineAnswer : Type 0
OneOutlineAnswer =
    (name bytes : List ℕ) (a b : Result OutlineData OutlineError) → IsOutlineAnswer name bytes a →
    IsOutlineAnswer name bytes b → (a ≢ Err Memory) → (b ≢ Err Memory) → a ≡ b

-- two outlines of the bytes of an extension file agree, out of memory aside
abbrev pub OneExtensionOutline : Type 0
OneExtensionOutline =
    (sorts : List SortLine) (vars : List VarLine) (bytes : List ℕ)
    (a b : Result ExtensionOutlineData OutlineError) → IsExtensionAnswer sorts vars bytes a →
    IsExtensionAnswer sorts vars bytes b →
    (a ≢ Err Memory) → (b ≢ Err Memory) → a ≡ b

-- the lines that an extension file with an outline keeps are its first lines, those of the
-- declarations, of the plain pairs, and of the rules
abbrev pub ExtensionOutlinesHaveLines : Type 0
ExtensionOutlinesHaveLines =
    (sorts : List SortLine) (vars : List VarLine) (bytes : List ℕ) (o : ExtensionOutlineData) →
    IsExtensionAnswer sorts vars bytes (Ok o) →
    AreExtensionLines sorts vars (numbered_lines (kept_lines (lines_from 1 bytes))) o

-- lines that are those of an outline of an extension file state it
abbrev pub LinesHaveExtensionOutlines : Type 0
LinesHaveExtensionOutlines =
    (sorts : List SortLine) (vars : List VarLine) (bytes : List ℕ) (o : ExtensionOutlineData) →
    IsUtf8 bytes →
    AreExtensionLines sorts vars (numbered_lines (kept_lines (lines_from 1 bytes))) o →
    IsExtensionAnswer sorts vars bytes (Ok o)

-- an extension file with an outline has the header that this states
abbrev pub OutlinesHaveHeaders : Type 0
OutlinesHaveHeaders =
    (sorts : List SortLine) (vars : List VarLine) (bytes : List ℕ) (o : ExtensionOutlineData) →
    IsExtensionAnswer sorts vars bytes (Ok o) →
    IsHeaderAnswer o.header.name bytes (Ok o.header)

-- the lines of an outline are good where what they declare is known, and declare this
abbrev pub OutlineLinesAreGood : Type 0
OutlineLinesAreGood = (name : List ℕ) (lines : List Numbered) (o : OutlineData) →
    AreOutlineLines name lines o →
    (m : MainLine) × (h : AreLanguageLines name (declared_by o m) lines) ×
    (h.among.all ≡ declared_by o m)

-- good lines that declare what is known, with a main line, are those of an outline
abbrev pub GoodLinesAreOutlines : Type 0
GoodLinesAreOutlines =
    (name : List ℕ) (known : Declared) (m : MainLine) (lines : List Numbered)
    (h : AreLanguageLines name known lines) → h.among.all ≡ known → known.mains ≡ m ∷ [] →
    (o : OutlineData) × AreOutlineLines name lines o

-- the lines of an outline of an extension file have its header
abbrev pub ExtensionLinesHaveHeaders : Type 0
ExtensionLinesHaveHeaders =
    (sorts : List SortLine) (vars : List VarLine) (lines : List Numbered)
    (o : ExtensionOutlineData) → AreExtensionLines sorts vars lines o →
    HaveHeader (λ x. x ≡ o.header.name) lines

-- the lines after the header of an outline of an extension file are good where what they declare
-- themselves is known
abbrev pub ExtensionLinesAreWhole : Type 0
ExtensionLinesAreWhole =
    (sorts : List SortLine) (vars : List VarLine) (lines : List Numbered)
    (o : ExtensionOutlineData) (h : AreExtensionLines sorts vars lines o) →
    AreWhole (declared_before sorts vars o.header.uses) (h.declarations ++ (h.pairs ++ h.rules))

-- after the lines of a header such lines are those of an outline
abbrev pub WholeLinesAreOutlines : Type 0
WholeLinesAreOutlines =
    (sorts : List SortLine) (vars : List VarLine) (h : HeaderData) (front lines : List Numbered) →
    AreHeaderLines front h → AreWhole (declared_before sorts vars h.uses) lines →
    (o : ExtensionOutlineData) × AreExtensionLines sorts vars (front ++ lines) o

-- where a language file is refused, this is so of its lines, by what all of them declare
abbrev pub RefusedLanguageFiles : Type 0
RefusedLanguageFiles =
    (name bytes : List ℕ) (number : ℕ) (kind : Kind) → IsName name →
    IsOutlineAnswer name bytes (Err (Notation number kind)) →
    (known : Declared) ×
    Declares files.Language false nothing (kept_lines (lines_from 1 bytes)) known ×
    IsLanguageRefused name known (kept_lines (lines_from 1 bytes)) number kind

-- where an extension file with this name has no header, this is so of its lines
abbrev pub RefusedHeaders : Type 0
RefusedHeaders =
    (name bytes : List ℕ) (number : ℕ) (kind : Kind) → IsModuleName name →
    IsHeaderAnswer name bytes (Err (Notation number kind)) →
    IsHeaderRefused (λ x. x ≡ name) (kept_lines (lines_from 1 bytes)) number kind

-- where an extension file is refused, this is so of its lines
abbrev pub RefusedExtensionFiles : Type 0
RefusedExtensionFiles =
    (sorts : List SortLine) (vars : List VarLine) (bytes : List ℕ) (number : ℕ) (kind : Kind) →
    IsExtensionAnswer sorts vars bytes (Err (Notation number kind)) →
    IsExtensionRefused sorts vars (kept_lines (lines_from 1 bytes)) number kind
