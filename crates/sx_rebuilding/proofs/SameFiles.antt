-- What is read from files is read from others that hold the same.
use Rattle.std.proofs.Common.{◌≡◌, ℕ, List, []}
use Rattle.std.specs.Prelude.{Result, Contains}
use Rattle.sx_outside.specs.Files.{Files}
use Rattle.sx_steps.specs.declared.stop.Stop.{Stop}
use Rattle.sx_steps.specs.Held.{Held}
use Rattle.sx_term.specs.Limits.{most_bytes}
use Rattle.sx_steps.specs.Steps.{Then}
use Rattle.sx_steps.specs.Unit.{interface_file}
use Rattle.sx_walking.proofs.Reaching.{reaches_as}
use Rattle.sx_uses.specs.ExtensionFile.{extension_file, used_names}
use Rattle.sx_uses.specs.ReadExtension.{StatesExtension, ReadsFile, IsFor, ReadsExtension}
use Rattle.sx_uses.specs.ReadUses.{ReadsUses}
use Rattle.sx_accepting.specs.LanguageFiles.{language_file}
use Rattle.sx_accepting.specs.ReadLanguage.{StatesLanguage, ReadsLanguage}
use Rattle.sx_headers.specs.ReadInterface.{StatesParts, ReadsInterface}
use Rattle.sx_headers.specs.ReadModule.{StatesModule, ReadsModule}
use Rattle.sx_importing.specs.ReadImports.{ReadsImport, ReadsImports}
use Rattle.sx_compiling.proofs.SameSteps.{IsAlso, then_as, after_as, held_as}

module _ (files others : Files) where
  -- both hold the same under this name, or both nothing
  abbrev pub HoldSame : List ℕ → Type 0
  HoldSame file = files file ≡ others file

  -- so what is read from this file of one is read from that of the other
  read_as : {A : Type 0} (file : List ℕ) (states : List ℕ → Result A Stop → Type 0) →
      HoldSame file → IsAlso (Then (Held most_bytes file files) states)
      (Then (Held most_bytes file others) states)
  read_as file states same =
      then_as (Held most_bytes file files) (Held most_bytes file others) states states
      (held_as most_bytes file files others same) (λ bytes r h. h)

  -- ---- modules and languages

  pub module_as : (file name : List ℕ) → HoldSame file →
      IsAlso (ReadsModule file name files) (ReadsModule file name others)
  module_as file name = read_as file (StatesModule file name)

  pub language_as : (name : List ℕ) → HoldSame (language_file name) →
      IsAlso (ReadsLanguage name files) (ReadsLanguage name others)
  language_as name = read_as (language_file name) (StatesLanguage name)

  -- ---- interfaces

  interface_as : (file name : List ℕ) → HoldSame file →
      IsAlso (ReadsInterface file name files) (ReadsInterface file name others)
  interface_as file name = read_as file (StatesParts file name)

  import_as : (name : List ℕ) → HoldSame (interface_file name) →
      IsAlso (ReadsImport files name) (ReadsImport others name)
  import_as name same r h = record {
    given = h.given;
    begins = interface_as (interface_file name) name same h.given h.begins;
    goes = h.goes;
  }

  pub imports_as : (names : List (List ℕ)) →
      ((name : List ℕ) → Contains names name → HoldSame (interface_file name)) →
      IsAlso (ReadsImports files names) (ReadsImports others names)
  imports_as names same =
      after_as (ReadsImport files) (ReadsImport others) [] names
      (λ name among. import_as name (same name among))

  -- ---- extensions

  -- both hold the same files of extensions
  abbrev pub HoldSameExtensions : Type 0
  HoldSameExtensions = (name : List ℕ) → HoldSame (extension_file name)

  module _ (same : HoldSameExtensions) where
    file_as : (name : List ℕ) → IsAlso (ReadsFile files name) (ReadsFile others name)
    file_as name = read_as (extension_file name) (StatesExtension name) (same name)

    pub extension_as : (language name : List ℕ) →
        IsAlso (ReadsExtension language files name) (ReadsExtension language others name)
    extension_as language name =
        then_as (ReadsFile files name) (ReadsFile others name) (IsFor language name)
        (IsFor language name) (file_as name) (λ given r h. h)

    pub uses_as : (file language : List ℕ) (roots : List (List ℕ)) →
        IsAlso (ReadsUses file language roots files) (ReadsUses file language roots others)
    uses_as file language roots =
        reaches_as used_names (ReadsExtension language files) (ReadsExtension language others)
        (extension_as language) file roots
