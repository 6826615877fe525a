-- The steps that read the file of a language.
use Rattle.std.specs.Prelude.{◌≡◌, ℕ, ◌≤◌, List, length, Result, Ok, Err, Some}
use Rattle.sha2.specs.Sha256.{sha256}
use Rattle.sx_earley.specs.Tokens.{Stems}
use Rattle.sx_notation.specs.declared.language.Language.{Language}
use Rattle.sx_notation.specs.declared.notation_error.NotationError.{NotationError}
use Rattle.sx_notation.specs.Language.{LanguageData, language_data, IsLanguage}
use Rattle.sx_language.specs.States.{IsLanguageIn, IsLanguageTextRefused}
use Rattle.sx_outside.specs.Files.{Files}
use Rattle.sx_steps.specs.declared.stop.Stop.{Stop}
use Rattle.sx_steps.specs.Held.{Held}
use Rattle.sx_term.specs.Limits.{most_bytes}
use Rattle.sx_steps.specs.Steps.{Then}
use Rattle.sx_accepting.specs.declared.read_language.LanguageFile.{LanguageFile}
use Rattle.sx_accepting.specs.LanguageStops.{language_stop}
use Rattle.sx_accepting.specs.ExtendedLanguages.{BaseLanguage}
use Rattle.sx_accepting.specs.LanguageFiles.{language_file}

-- a language, the stems of its metavariables, and the digest of its file
pub record Stated : Type 0 where
  pub language : LanguageData
  pub stems : Stems
  pub digest : List ℕ

-- what was read, without where it lies in memory
abbrev pub stated_of : LanguageFile → Stated
stated_of l = record {
  language = language_data l.language;
  stems = l.language.metas.stems.items;
  digest = l.digest.bytes;
}

-- what its extensions are read by
abbrev pub base_in : Stated → BaseLanguage
base_in l = record { content = l.language; stems = l.stems }

-- the bytes state the language under this name, and have the digest
pub record IsLanguageStated (name bytes : List ℕ) (l : Stated) : Type 0 where
  pub whole : Language
  pub states : IsLanguageIn name bytes whole
  pub fit : IsLanguage whole
  pub language : l.language ≡ language_data whole
  pub stems : l.stems ≡ whole.metas.stems.items
  pub digest : l.digest ≡ sha256 bytes

-- the bytes are refused under this name
pub record IsLanguageStopped (name bytes : List ℕ) (stop : Stop) : Type 0 where
  pub error : NotationError
  pub refused : IsLanguageTextRefused name bytes error
  pub is : language_stop (language_file name) error ≡ Some stop

-- the language that the bytes state, or their refusal
abbrev pub StatesLanguage : List ℕ → List ℕ → Result Stated Stop → Type 0
StatesLanguage name bytes (Ok l) = IsLanguageStated name bytes l
StatesLanguage name bytes (Err stop) = IsLanguageStopped name bytes stop

-- the language in the file
abbrev pub ReadsLanguage : List ℕ → Files → Result Stated Stop → Type 0
ReadsLanguage name files = Then (Held most_bytes (language_file name) files) (StatesLanguage name)

-- some text of at most so many bytes as a file may have states the language under this name
pub record HasText (name : List ℕ) (l : Language) : Type 0 where
  pub bytes : List ℕ
  pub states : IsLanguageIn name bytes l
  pub short : length bytes ≤ most_bytes
