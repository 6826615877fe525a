-- The reader of the first lines of an extension file.
use Rattle.std.specs.Prelude.{◌≡◌, ℕ, Bool, true, false, List, [], ◌∷◌, ◌++◌, Contains, Result, Ok}
use Rattle.std.specs.Prelude.{Err}
use Rattle.sx_lines.specs.Lines.{Lines}
use Rattle.std.specs.Global.{Vec}
use Rattle.sx_lines.specs.declared.rest.Rest.{Rest}
use Rattle.sx_lines.specs.Left.{left}
use Rattle.sx_lines.specs.declared.kind.Kind.{Kind}
use Rattle.sx_lines.specs.declared.kind.Kind.TheVariants.{Head, Shape}
use Rattle.sx_directives.specs.Rows.{IsRow}
use Rattle.sx_directives.specs.declared.file_kind.FileKind.TheVariants as files
use Rattle.sx_directives.specs.declared.row.Row.TheVariants.{Extension}
use Rattle.sx_outline.specs.declared.extension_header.ExtensionHeader.{ExtensionHeader}
use Rattle.sx_outline.specs.declared.header_uses.HeaderUses.{HeaderUses}
use Rattle.sx_outline.specs.declared.outline_error.OutlineError.{OutlineError}
use Rattle.sx_outline.specs.declared.outline_error.OutlineError.TheVariants.{Memory, NotUtf8}
use Rattle.sx_outline.specs.declared.outline_error.OutlineError.TheVariants.{Notation}
use Rattle.sx_outline.specs.Tables.{ArePlaces}
use Rattle.sx_outline.specs.Known.{kept_lines}
use Rattle.sx_outline.specs.Headers.{HeaderData, header, with_use, IsUseLine, IsNewUse}
use Rattle.sx_outline.specs.Headers.{IsLanguageLine, IsLanguageNext, IsHeaderOf, IsHeader, AreUses}

-- the names are found
abbrev pub AreUsesFound : HeaderUses → Type 0
AreUsesFound u = ArePlaces u.names.items u.places

-- the names after one was added, if it is new
abbrev pub IsUseAdded : List (List ℕ) → List ℕ → Bool → List (List ℕ) → Type 0
IsUseAdded old name true new = (Contains old name → ⊥) × (new ≡ old ++ name ∷ [])
IsUseAdded old name false new = Contains old name × (new ≡ old)

-- the header with these uses
abbrev pub using : HeaderData → List (List ℕ) → HeaderData
using h names = record { name = h.name; language = h.language; uses = names }

-- why a second line is refused
abbrev pub IsLanguageRefused : ℕ → List ℕ → OutlineError → Type 0
IsLanguageRefused number text Memory = Unit {0}
IsLanguageRefused number text (NotUtf8 place) = ⊥
IsLanguageRefused number text (Notation l Head) =
    (l ≡ number) × ((language : List ℕ) → IsLanguageLine text language → ⊥)
IsLanguageRefused number text (Notation l _) = ⊥

-- why a line after the second is refused
abbrev pub IsUseRefused : HeaderData → ℕ → List ℕ → OutlineError → Type 0
IsUseRefused h number text Memory = Unit {0}
IsUseRefused h number text (NotUtf8 place) = ⊥
IsUseRefused h number text (Notation l Shape) =
    (l ≡ number) × IsUseLine text × ((used : List ℕ) → IsNewUse h text used → ⊥)
IsUseRefused h number text (Notation l _) = ⊥

-- what reading a line after the second answers: whether it is a `use` line, and what is used then
abbrev pub IsUseRead : (old new : HeaderData) → ℕ → List ℕ → Result Bool OutlineError → Type 0
IsUseRead old new number text (Ok true) = (used : List ℕ) × IsNewUse old text used ×
    (new ≡ with_use old used)
IsUseRead old new number text (Ok false) = (IsUseLine text → ⊥) × (new ≡ old)
IsUseRead old new number text (Err e) = IsUseRefused old number text e

-- the header with these uses, and the lines that are left
abbrev pub HasUses : HeaderData → Result (Vec (List ℕ) × Rest) OutlineError →
    Result (HeaderData × Lines) OutlineError
HasUses h (Ok x) = Ok (using h x.0.items, kept_lines (left x.1))
HasUses h (Err e) = Err e

-- the lines are read up to the end of a header
abbrev pub EndsTheHeader : Result (HeaderData × Lines) OutlineError → HeaderData → Lines → Type 0
EndsTheHeader result h lines = result ≡ Ok (h, lines)

-- the refusal is that of this line
abbrev pub IsBadIn : Result (HeaderData × Lines) OutlineError → ℕ → Kind → Type 0
IsBadIn result number bad = result ≡ Err (Notation number bad)

-- what reading lines answers, where memory may be lacking at each
abbrev pub OrLacking : (Result (HeaderData × Lines) OutlineError → Type 0) →
    Result (HeaderData × Lines) OutlineError → Type 0
OrLacking Is (Err Memory) = Unit {0}
OrLacking Is (Err (NotUtf8 place)) = ⊥
OrLacking Is result = Is result

-- what comes of lines after the second, whatever the first two are
abbrev pub AreUseRows : Lines → HeaderData → Result (HeaderData × Lines) OutlineError → Type 0
AreUseRows lines h result = AreUses h lines (EndsTheHeader result) (IsBadIn result)

-- what reading lines after the second answers, whatever the first two are
abbrev pub AreUsesRead : Lines → Result (Vec (List ℕ) × Rest) OutlineError → Type 0
AreUsesRead lines result = (h : HeaderData) → h.uses ≡ [] →
    OrLacking (AreUseRows lines h) (HasUses h result)

-- a header and what is left after it, as plain data
abbrev pub read_header : Result (ExtensionHeader × Rest) OutlineError →
    Result (HeaderData × Lines) OutlineError
read_header (Ok x) = Ok (header x.0, kept_lines (left x.1))
read_header (Err e) = Err e

-- what reading lines after the first answers
abbrev pub IsLanguageRead : List ℕ → Lines → Result (ExtensionHeader × Rest) OutlineError → Type 0
IsLanguageRead name lines result = OrLacking (λ r.
    IsLanguageNext name lines (EndsTheHeader r) (IsBadIn r)) (read_header result)

-- what reading all lines answers, where the name is given
abbrev pub IsNamedHeaderRead : List ℕ → Lines → Result (ExtensionHeader × Rest) OutlineError →
    Type 0
IsNamedHeaderRead name lines result = OrLacking
    (λ r. IsHeaderOf name lines (EndsTheHeader r) (IsBadIn r)) (read_header result)

-- what reading all lines answers, whatever the name is
abbrev pub IsAnyHeaderRead : Lines → Result (ExtensionHeader × Rest) OutlineError → Type 0
IsAnyHeaderRead lines result = OrLacking (λ r. IsHeader lines (EndsTheHeader r) (IsBadIn r))
    (read_header result)

-- why a first line is refused
abbrev pub IsExtensionRefused : ℕ → List ℕ → OutlineError → Type 0
IsExtensionRefused number text Memory = Unit {0}
IsExtensionRefused number text (NotUtf8 place) = ⊥
IsExtensionRefused number text (Notation l Head) =
    (l ≡ number) × ((name : List ℕ) → IsRow files.Extension text (Extension name) → ⊥)
IsExtensionRefused number text (Notation l _) = ⊥
