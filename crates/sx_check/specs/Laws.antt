-- What is proved of `check NAME`.
use Rattle.std.specs.Prelude.{◌≡◌, ◌⊎◌, ℕ, List, [], ◌∷◌, Result, Ok, Err}
use Rattle.sx_extcheck.specs.declared.budgets.Budgets.{Budgets}
use Rattle.sx_outside.specs.Files.{Files}
use Rattle.sx_steps.specs.declared.stop.Stop.{Stop}
use Rattle.sx_steps.specs.declared.step_error.StepError.{StepError}
use Rattle.sx_steps.specs.declared.step_error.StepError.TheVariants as errors
use Rattle.sx_steps.specs.Agree.{AreReadings, IsSure, AnswersBy}
use Rattle.sx_steps.specs.TypeErrors.{IsTypeError}
use Rattle.sx_steps.specs.Work.{Plan}
use Rattle.sx_uses.specs.ExtensionFile.{Extension, extension_file}
use Rattle.sx_uses.specs.Laws.{AnswerAlike}
use Rattle.sx_uses.specs.ReadExtension.{ReadsFile}
use Rattle.sx_uses.specs.ReadUses.{ReadsUses}
use Rattle.sx_accepting.specs.Alike.{StopsAtLanguage, StopsAtExtension}
use Rattle.sx_accepting.specs.ExtendedLanguages.{unextended}
use Rattle.sx_accepting.specs.Laws.{StopsAtUnsound}
use Rattle.sx_accepting.specs.ReadLanguage.{Stated, ReadsLanguage, base_in}
use Rattle.sx_check.specs.CheckExtension.{ChecksExtension}

-- ---- one result

-- the stop is that of the file of the language, about a line that has more than two readings
pub record IsOfCheckedLanguage (name : List ℕ) (files : Files) (stop : Stop) : Type 0 where
  pub read : Extension
  pub reads : ReadsFile files name (Ok read)
  pub stops : StopsAtLanguage read.header.language files stop

-- the extensions that are reached from the one with this name, and the language of all of them
pub record AreReachedFrom (name : List ℕ) (files : Files) : Type 0 where
  pub read : Extension
  pub reads : ReadsFile files name (Ok read)
  pub language : Stated
  pub states : ReadsLanguage read.header.language files (Ok language)
  pub extensions : List Extension
  pub reached : ReadsUses (extension_file name) read.header.language (name ∷ []) files
      (Ok extensions)

-- one of these is refused, which is read after those before it
abbrev pub StopsAtReached : (name : List ℕ) → Budgets → (files : Files) →
    AreReachedFrom name files →
    Stop → Type 0
StopsAtReached name budgets files r stop =
    StopsAtExtension (base_in r.language) budgets (unextended r.language.language) r.extensions stop

-- the stop is that of one of the extensions, about a line that has more than two readings
pub record IsOfCheckedExtension (name : List ℕ) (budgets : Budgets) (files : Files)
    (stop : Stop) : Type 0
  where
    pub from : AreReachedFrom name files
    pub stops : StopsAtReached name budgets files from stop

-- the stops give the same status and the same line, but for the two readings that they show of a
-- line of the language's file or of an extension's that has more than two
abbrev pub SameButLines : (name : List ℕ) → Budgets → Files → Stop → Stop → Type 0
SameButLines name budgets files s t =
    AnswerAlike s t
    ⊎ (AreReadings s t × (IsOfCheckedLanguage name files s
    ⊎ IsOfCheckedExtension name budgets files s))

-- by the name and the files there is one result and one number of tries, but for read faults, out
-- of memory and such readings
abbrev pub ChecksAgree : Type 0
ChecksAgree =
    (name : List ℕ) (budgets : Budgets) (files : Files) (a b : Result Plan StepError) (m n : ℕ) →
    ChecksExtension name budgets files a m → ChecksExtension name budgets files b n →
    IsSure a → IsSure b → AnswersBy (SameButLines name budgets files) a b × (m ≡ n)

-- ---- rules that are not sound

-- one of the extensions that are reached has a rule that is sound by nothing, and the stop is about
-- this rule, in the file of that extension
pub record ReachesUnsoundRule (name : List ℕ) (budgets : Budgets) (files : Files)
    (stop : Stop) : Type 0
  where
    pub from : AreReachedFrom name files
    pub unsound : StopsAtUnsound (base_in from.language) budgets from.extensions stop

-- a check stops with a type error only where the rule that the stop is about is not sound
abbrev pub UnsoundChecksAreFinal : Type 0
UnsoundChecksAreFinal =
    (name : List ℕ) (budgets : Budgets) (files : Files) (stop : Stop) (tries : ℕ) →
    ChecksExtension name budgets files (Err (errors.Stopped stop)) tries → IsTypeError stop →
    ReachesUnsoundRule name budgets files stop
