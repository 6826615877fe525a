-- The steps that read the file of an extension as far as its header.
use Rattle.std.specs.Prelude.{◌≡◌, ◌≢◌, ℕ, List, Option, Some, None, Result, Ok, Err}
use Rattle.sx_outline.specs.declared.outline_error.OutlineError.{OutlineError}
use Rattle.sx_outline.specs.declared.outline_error.OutlineError.TheVariants as outline_error
use Rattle.sx_outline.specs.Headers.{IsHeaderAnswer}
use Rattle.sx_outside.specs.Files.{Files}
use Rattle.sx_words.specs.declared.extension_defect.ExtensionDefect.TheVariants as extension_defect
use Rattle.sx_words.specs.declared.refusal.Defect.TheVariants as defect
use Rattle.sx_steps.specs.declared.stop.Stop.{Stop}
use Rattle.sx_steps.specs.Held.{Held}
use Rattle.sx_term.specs.Limits.{most_bytes}
use Rattle.sx_steps.specs.Refusal.{about}
use Rattle.sx_steps.specs.Steps.{Then}
use Rattle.sx_steps.specs.Stops.{not_utf8, bad_kind_text, bad_line}
use Rattle.sx_uses.specs.ExtensionFile.{Extension, extension_file}

-- ---- stops

-- the stop of a header's refusal; out of memory has none
abbrev pub extension_header_stop : List ℕ → OutlineError → Option Stop
extension_header_stop file outline_error.Memory = None
extension_header_stop file (outline_error.NotUtf8 before) = Some (not_utf8 file before)
extension_header_stop file (outline_error.Notation line what) = Some (bad_line file line
    (bad_kind_text what))

-- the extension in the file is written for this language, which is another one
abbrev pub wrong_language : List ℕ → List ℕ → Stop
wrong_language file language =
    about file (defect.Extension (extension_defect.WrongLanguage language))

-- ---- steps

-- the bytes state the header of the extension with this name
pub record HasExtensionHeader (name bytes : List ℕ) (x : Extension) : Type 0 where
  pub same : x.bytes ≡ bytes
  pub states : IsHeaderAnswer name bytes (Ok x.header)

-- the bytes state no header of an extension with this name
pub record HasNoHeader (name bytes : List ℕ) (stop : Stop) : Type 0 where
  pub error : OutlineError
  pub refused : IsHeaderAnswer name bytes (Err error)
  pub is : extension_header_stop (extension_file name) error ≡ Some stop

-- the header that the bytes state, or its refusal
abbrev pub StatesExtension : List ℕ → List ℕ → Result Extension Stop → Type 0
StatesExtension name bytes (Ok x) = HasExtensionHeader name bytes x
StatesExtension name bytes (Err stop) = HasNoHeader name bytes stop

-- the header in the file of the extension with this name
abbrev pub ReadsFile : Files → List ℕ → Result Extension Stop → Type 0
ReadsFile files name = Then (Held most_bytes (extension_file name) files) (StatesExtension name)

-- the extension with this name is written for the language, and any other is refused
abbrev pub IsFor : (language name : List ℕ) → Extension → Result Extension Stop → Type 0
IsFor language name given (Ok x) = (given.header.language ≡ language) × (x ≡ given)
IsFor language name given (Err stop) = (given.header.language ≢ language) ×
    (stop ≡ wrong_language (extension_file name) given.header.language)

-- the file of the extension with this name, which is to be written for the language
abbrev pub ReadsExtension : (language : List ℕ) → Files → List ℕ → Result Extension Stop → Type 0
ReadsExtension language files name = Then (ReadsFile files name) (IsFor language name)
