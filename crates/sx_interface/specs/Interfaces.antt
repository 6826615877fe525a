-- The interface of a module, in its two versions.
use Rattle.std.specs.Prelude.{ℕ, ◌^◌, ◌-◌, ◌==◌, ◌||◌, false, List, [], ◌∷◌, ◌++◌, map, codes}
use Rattle.std.specs.Prelude.{Option, Some, None, option_and_then, Result, Ok, if◌then◌else◌}
use Rattle.std.specs.Str.{bytes_eq}
use Rattle.hex.specs.Hex.{encode_lower}
use Rattle.sx_lines.specs.Bytes.{space}
use Rattle.sx_lines.specs.Lines.{Lines, over, line}
use Rattle.sx_lines.specs.Words.{after, is_name, number_within}
use Rattle.sx_lines.specs.Reading.{◌>>=◌, the_line, next_line, no_line}
use Rattle.sx_lines.specs.Rows.{distinct_rows, word_of}
use Rattle.sx_interface.specs.Digests.{digest_of}
use Rattle.sx_interface.specs.declared.version.Version.{Version}
use Rattle.sx_interface.specs.declared.version.Version.TheVariants.{One, Two}

-- a name with a digest
pub record MarkData : Type 0 where
  pub name : List ℕ
  pub digest : List ℕ

-- an interface without where it lies in memory: the signature in base syntax, and as it is stated
-- in the syntax of the extensions that it uses
pub record InterfaceParts : Type 0 where
  pub name : List ℕ
  pub language : MarkData
  pub uses : List MarkData
  pub base : List ℕ
  pub imports : List MarkData
  pub signature : List ℕ
  pub stated : List ℕ

-- a name, a blank and the digits of a digest
abbrev pub mark_text : MarkData → List ℕ
mark_text m = m.name ++ space ∷ encode_lower m.digest

-- a row for each mark
abbrev pub mark_lines : List ℕ → List MarkData → List (List ℕ)
mark_lines front marks = map (λ m. front ++ mark_text m) marks

-- the lines of an interface in version 1
abbrev pub first_lines : InterfaceParts → List (List ℕ)
first_lines it =
    codes "sxint 1" ∷ (codes "module " ++ it.name) ∷ (codes "language " ++ mark_text it.language)
    ∷ (codes "base " ++ encode_lower it.base)
    ∷ (mark_lines (codes "import ") it.imports ++ codes "---" ∷ it.signature ∷ [])

-- the lines of an interface in version 2
abbrev pub interface_lines : InterfaceParts → List (List ℕ)
interface_lines it =
    codes "sxint 2" ∷ (codes "module " ++ it.name) ∷ (codes "language " ++ mark_text it.language)
    ∷ (mark_lines (codes "use ") it.uses ++ (codes "base " ++ encode_lower it.base)
    ∷ (mark_lines (codes "import ") it.imports ++ codes "---" ∷ it.signature ∷ it.stated ∷ []))

-- the lines of an interface in a version
abbrev pub lines_in : Version → InterfaceParts → List (List ℕ)
lines_in One it = first_lines it
lines_in Two it = interface_lines it

-- the mark with this name, where the name is one and there is a digest
abbrev pub mark_if : List ℕ → Option (List ℕ) → Option MarkData
mark_if name (Some digest) =
    if is_name false name then Some (record { name = name; digest = digest }) else None
mark_if name None = None

-- the mark that a text states
unfoldable pub mark_of : List ℕ → Option MarkData
mark_of text = mark_if (word_of text).0 (digest_of (word_of text).1)

-- the mark that a row with this front states
unfoldable pub mark_after : List ℕ → List ℕ → Option MarkData
mark_after front text = option_and_then mark_of (after front text)

-- the digest that a row with this front states
unfoldable pub digest_after : List ℕ → List ℕ → Option (List ℕ)
digest_after front text = option_and_then digest_of (after front text)

-- the version that a first line names
abbrev pub version_of : List ℕ → Option Version
version_of text =
    if bytes_eq text (codes "sxint 1") then Some One
    else if bytes_eq text (codes "sxint 2") then Some Two else None

-- the mark that a `use` line states, in a version that has them
abbrev pub use_after : Version → List ℕ → Option MarkData
use_after One = λ text. None
use_after Two = mark_after (codes "use ")

-- the stated signature, which in version 1 is the signature, and the lines after it
abbrev pub stated_signature : Version → List ℕ × Lines → Result (List ℕ × Lines) ℕ
stated_signature One signature = Ok signature
stated_signature Two signature = next_line Some signature.1

-- what is stated before the imports, and the lines from there on
pub record Front : Type 0 where
  pub version : Version
  pub language : MarkData
  pub uses : List MarkData
  pub base : List ℕ
  pub rest : Lines

-- what stands before the imports, in a file of the module with this name
unfoldable pub interface_front : List ℕ → Lines → Result Front ℕ
interface_front name lines = do
  version ← next_line version_of lines
  rest ← the_line (codes "module " ++ name) version.1
  language ← next_line (mark_after (codes "language ")) rest
  uses ← distinct_rows (λ m. m.name) (use_after version.0) [] language.1
  base ← next_line (digest_after (codes "base ")) uses.1
  Ok (record {
    version = version.0;
    language = language.0;
    uses = uses.0;
    base = base.0;
    rest = base.1;
  })

-- the signature and the stated one, which stand after the imports
unfoldable pub signatures_of : Version → Lines → Result (List ℕ × List ℕ) ℕ
signatures_of version lines = do
  signed ← the_line (codes "---") lines
  signature ← next_line Some signed
  stated ← stated_signature version signature
  end ← no_line stated.1
  Ok (signature.0, stated.0)

-- The interface that the lines of its file state, or the number of the first line that is not as
-- defined.
unfoldable pub interface_of : List ℕ → Lines → Result InterfaceParts ℕ
interface_of name lines = do
  front ← interface_front name lines
  imports ← distinct_rows (λ m. m.name) (mark_after (codes "import ")) [] front.rest
  signatures ← signatures_of front.version imports.1
  Ok (record {
    name = name;
    language = front.language;
    uses = front.uses;
    base = front.base;
    imports = imports.0;
    signature = signatures.0;
    stated = signatures.1;
  })

-- the number, unless it is that of a version
abbrev pub unless_known : ℕ → Option ℕ
unless_known n = if n == 1 || n == 2 then None else Some n

-- the number of another version, where the first line names one
unfoldable pub other_version : Lines → Option ℕ
other_version (over n) = None
other_version (line n text rest more) =
    option_and_then (λ digits. option_and_then unless_known (number_within (2 ^ 64 - 1) digits))
    (after (codes "sxint ") text)
