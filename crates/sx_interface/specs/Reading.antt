-- How a result stands to what reading gives.
use Rattle.sx_lines.specs.Reading.{GivesRead}
use Rattle.std.specs.Prelude.{◌≡◌, ℕ, List, Option, Some, None, Result, Ok, Err}
use Rattle.std.specs.Str.{IsUtf8}
use Rattle.std.specs.Str.Lossy.{utf8_valid_len}
use Rattle.sx_interface.specs.declared.error.HeaderError.{HeaderError}
use Rattle.sx_interface.specs.declared.error.HeaderError.TheVariants.{Memory, NotUtf8, Header}
use Rattle.sx_interface.specs.declared.error.HeaderError.TheVariants.{Version}

-- an error where memory runs out, or at the line that reading refuses
abbrev pub RefusesHeader : {Y : Type 0} → HeaderError → Result Y ℕ → Type 0
RefusesHeader Memory read = Unit {0}
RefusesHeader (NotUtf8 place) read = ⊥
RefusesHeader (Header n) read = read ≡ Err n
RefusesHeader (Version n) read = ⊥

-- the same of bytes that may be no text
abbrev pub RefusesText : {Y : Type 0} → List ℕ → HeaderError → Result Y ℕ → Type 0
RefusesText bytes (NotUtf8 place) read = (IsUtf8 bytes → ⊥) × (place ≡ utf8_valid_len bytes)
RefusesText bytes e read = IsUtf8 bytes × RefusesHeader e read

-- what was read is text
abbrev pub IsText : {X : Type 0} → List ℕ → Result X HeaderError → Type 0
IsText bytes (Ok x) = IsUtf8 bytes
IsText bytes (Err e) = Unit {0}

-- the version is the one of the text
abbrev pub IsVersion : List ℕ → ℕ → HeaderError → Type 0
IsVersion bytes version Memory = Unit {0}
IsVersion bytes version (NotUtf8 place) = (IsUtf8 bytes → ⊥) × (place ≡ utf8_valid_len bytes)
IsVersion bytes version (Header n) = ⊥
IsVersion bytes version (Version n) = IsUtf8 bytes × (n ≡ version)

-- where the first line names another version, that version; else what reading gives
abbrev pub AnswersVersion : {X Y : Type 0} → List ℕ → Option ℕ → (X → Y) → Result X HeaderError →
    Result Y ℕ → Type 0
AnswersVersion bytes (Some version) view (Ok x) read = ⊥
AnswersVersion bytes (Some version) view (Err e) read = IsVersion bytes version e
AnswersVersion bytes None view result read = GivesRead view (RefusesText bytes) result read

-- the line that an error names
abbrev pub error_line : HeaderError → Option ℕ
error_line Memory = None
error_line (NotUtf8 place) = None
error_line (Header n) = Some n
error_line (Version n) = None
