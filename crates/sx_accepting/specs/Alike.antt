-- Stops that are the same, though two readings that they show of a line may not be, where the line
-- has more than two.
use Rattle.std.specs.Prelude.{◌≡◌, ◌⊎◌, ℕ, List, ◌∷◌, ◌++◌, Ok, Err}
use Rattle.sx_language.specs.Alike.{LanguageHasThree}
use Rattle.sx_extension.specs.Alike.{ExtensionHasThree}
use Rattle.sx_extcheck.specs.declared.budgets.Budgets.{Budgets}
use Rattle.sx_words.specs.declared.position.Position.TheVariants.{Line}
use Rattle.sx_outside.specs.Files.{Files}
use Rattle.sx_steps.specs.declared.stop.Stop.{Stop}
use Rattle.sx_steps.specs.Agree.{AreReadings}
use Rattle.sx_steps.specs.Held.{Held}
use Rattle.sx_term.specs.Limits.{most_bytes}
use Rattle.sx_uses.specs.ExtensionFile.{Extension, extension_file}
use Rattle.sx_accepting.specs.ExtendedLanguages.{BaseLanguage, ExtendedData, ground_of}
use Rattle.sx_accepting.specs.Extending.{ReadsAfter, ExtendsLanguage}
use Rattle.sx_accepting.specs.LanguageFiles.{language_file}
use Rattle.sx_accepting.specs.ReadLanguage.{StatesLanguage}

-- the stop is about a line of the file, which has more than two readings
pub record IsOfLine (file : List ℕ) (HasMore : (line : ℕ) → Type 0) (stop : Stop) : Type 0 where
  pub line : ℕ
  pub named : stop.file ≡ file
  pub place : stop.refusal.place ≡ Line line
  pub three : HasMore line

-- the language's file is refused, and the stop is about such a line of it
pub record StopsAtLanguage (name : List ℕ) (files : Files) (stop : Stop) : Type 0 where
  pub bytes : List ℕ
  pub held : Held most_bytes (language_file name) files (Ok bytes)
  pub stops : StatesLanguage name bytes (Err stop)
  pub line : IsOfLine (language_file name) (LanguageHasThree name bytes) stop

-- one of these extensions, which is read after those before it, is refused, and the stop is about
-- such a line of its file
pub record StopsAtExtension (l : BaseLanguage) (budgets : Budgets) (start : ExtendedData)
    (files : List Extension) (stop : Stop) : Type 0 where
  pub before : List Extension
  pub this : Extension
  pub after : List Extension
  pub parts : files ≡ before ++ this ∷ after
  pub so_far : ExtendedData
  pub tries : ℕ
  pub extends : ExtendsLanguage l budgets before start (Ok so_far) tries
  pub stops : ReadsAfter l so_far this (Err stop)
  pub line : IsOfLine (extension_file this.header.name)
      (ExtensionHasThree (ground_of l so_far) this.bytes) stop

-- the stops are the same, but for the two readings that they show where it is free which these are
abbrev pub SameButReadings : (IsFree : Stop → Type 0) → Stop → Stop → Type 0
SameButReadings IsFree s t = (s ≡ t) ⊎ (AreReadings s t × IsFree s)
