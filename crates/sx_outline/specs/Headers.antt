-- The first lines of an extension file: its name, its language, and the extensions that it uses.
use Rattle.std.specs.Prelude.{◌≡◌, ℕ, ◌⊎◌, List, [], ◌∷◌, ◌++◌, Contains, Result, Ok, Err, codes}
use Rattle.std.specs.Str.{IsUtf8}
use Rattle.std.specs.Str.Lossy.{utf8_valid_len}
use Rattle.sx_lines.specs.Lines.{Lines, over, line, lines_from}
use Rattle.sx_lines.specs.declared.kind.Kind.{Kind}
use Rattle.sx_lines.specs.declared.kind.Kind.TheVariants.{Head, Shape}
use Rattle.sx_directives.specs.Parts.{parts_of}
use Rattle.sx_directives.specs.Rows.{IsRow}
use Rattle.sx_directives.specs.declared.file_kind.FileKind.TheVariants as files
use Rattle.sx_directives.specs.declared.row.Row.TheVariants.{Extension, Language, Use}
use Rattle.sx_outline.specs.declared.extension_header.ExtensionHeader.{ExtensionHeader}
use Rattle.sx_outline.specs.declared.outline_error.OutlineError.{OutlineError}
use Rattle.sx_outline.specs.declared.outline_error.OutlineError.TheVariants.{Memory, NotUtf8}
use Rattle.sx_outline.specs.declared.outline_error.OutlineError.TheVariants.{Notation}
use Rattle.sx_outline.specs.Known.{kept_lines}

-- a header as plain data
pub record HeaderData : Type 0 where
  pub name : List ℕ
  pub language : List ℕ
  pub uses : List (List ℕ)

-- what a header holds, without its memory
abbrev pub header : ExtensionHeader → HeaderData
header h = record { name = h.name; language = h.language; uses = h.uses.items }

-- a header that uses nothing yet
abbrev pub header_begun : (name language : List ℕ) → HeaderData
header_begun name language = record { name = name; language = language; uses = [] }

-- a header that uses one more
abbrev pub with_use : HeaderData → List ℕ → HeaderData
with_use h used = record { name = h.name; language = h.language; uses = h.uses ++ used ∷ [] }

-- the line's first part is `use`
abbrev pub IsUseLine : List ℕ → Type 0
IsUseLine text = (rest : List (List ℕ)) × (parts_of text ≡ codes "use" ∷ rest)

-- the line is a `use` line of a name that stands in none before it
abbrev pub IsNewUse : HeaderData → List ℕ → List ℕ → Type 0
IsNewUse h text used = IsRow files.Extension text (Use used) × (Contains h.uses used → ⊥)

-- What comes of these lines after those of this header: more that it uses up to the first line of
-- another word, then this of the header and of the lines that are left; or the first bad `use`
-- line, then this of its number and kind.
abbrev pub AreUses : HeaderData → Lines → (HeaderData → Lines → Type 0) → (ℕ → Kind → Type 0) →
    Type 0
AreUses h (over end) Next Bad = Next h (over end)
AreUses h (line number text after more) Next Bad =
    ((used : List ℕ) × IsNewUse h text used × AreUses (with_use h used) more Next Bad)
    ⊎ (IsUseLine text × ((used : List ℕ) → IsNewUse h text used → ⊥) × Bad number Shape)
    ⊎ ((IsUseLine text → ⊥) × Next h (line number text after more))

-- the line is that of a language with some name
abbrev pub IsLanguageLine : List ℕ → List ℕ → Type 0
IsLanguageLine text language = IsRow files.Extension text (Language language)

-- what comes of the lines after the first: the next is `language NAME`
abbrev pub IsLanguageNext : (name : List ℕ) → Lines → (HeaderData → Lines → Type 0) →
    (ℕ → Kind → Type 0) → Type 0
IsLanguageNext name (over end) Next Bad = Bad end Head
IsLanguageNext name (line number text after more) Next Bad =
    ((language : List ℕ) × IsLanguageLine text language ×
    AreUses (header_begun name language) more Next Bad)
    ⊎ (((language : List ℕ) → IsLanguageLine text language → ⊥) × Bad number Head)

-- what comes of the lines of the extension with this name: the first is `extension NAME`
abbrev pub IsHeaderOf : (name : List ℕ) → Lines → (HeaderData → Lines → Type 0) →
    (ℕ → Kind → Type 0) → Type 0
IsHeaderOf name (over end) Next Bad = Bad end Head
IsHeaderOf name (line number text after more) Next Bad =
    (IsRow files.Extension text (Extension name) × IsLanguageNext name more Next Bad)
    ⊎ ((IsRow files.Extension text (Extension name) → ⊥) × Bad number Head)

-- what comes of the lines of an extension with whatever name
abbrev pub IsHeader : Lines → (HeaderData → Lines → Type 0) → (ℕ → Kind → Type 0) → Type 0
IsHeader (over end) Next Bad = Bad end Head
IsHeader (line number text after more) Next Bad =
    ((name : List ℕ) × IsRow files.Extension text (Extension name) ×
    IsLanguageNext name more Next Bad)
    ⊎ (((name : List ℕ) → IsRow files.Extension text (Extension name) → ⊥) × Bad number Head)

-- what the first lines of the bytes of the file of the extension with this name, which are UTF-8,
-- come to
abbrev pub IsHeaderIn : (name bytes : List ℕ) → Result HeaderData OutlineError → Type 0
IsHeaderIn name bytes result =
    IsUtf8 bytes
    × IsHeaderOf name (kept_lines (lines_from 1 bytes)) (λ h left. result ≡ Ok h)
    (λ number bad. result ≡ Err (Notation number bad))

-- what the first lines of the bytes of the file of the extension with this name state, or why they
-- state nothing
abbrev pub IsHeaderAnswer : (name bytes : List ℕ) → Result HeaderData OutlineError → Type 0
IsHeaderAnswer name bytes (Err Memory) = Unit {0}
IsHeaderAnswer name bytes (Err (NotUtf8 place)) =
    (IsUtf8 bytes → ⊥) × (place ≡ utf8_valid_len bytes)
IsHeaderAnswer name bytes (Err (Notation number bad)) =
    IsHeaderIn name bytes (Err (Notation number bad))
IsHeaderAnswer name bytes (Ok h) = IsHeaderIn name bytes (Ok h)

-- what reading the header of an extension file answers
abbrev pub IsHeaderRead : (name bytes : List ℕ) → Result ExtensionHeader OutlineError → Type 0
IsHeaderRead name bytes (Ok h) = IsHeaderAnswer name bytes (Ok (header h))
IsHeaderRead name bytes (Err e) = IsHeaderAnswer name bytes (Err e)
