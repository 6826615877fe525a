-- What is proved of `compile NAME`.
use Rattle.std.specs.Prelude.{◌≡◌, ◌⊎◌, ℕ, suc, ◌*◌, ◌≤◌, List, length, Result, Ok, Err}
use Rattle.sx_audit.specs.Meaning.{Meaning}
use Rattle.sx_extcheck.specs.declared.budgets.Budgets.{Budgets}
use Rattle.sx_outside.specs.Files.{Files}
use Rattle.sx_steps.specs.declared.stop.Stop.{Stop}
use Rattle.sx_steps.specs.declared.step_error.StepError.{StepError}
use Rattle.sx_steps.specs.declared.step_error.StepError.TheVariants as errors
use Rattle.sx_steps.specs.Agree.{AreReadings, IsSure, AnswersBy}
use Rattle.sx_steps.specs.TypeErrors.{IsTypeError}
use Rattle.sx_steps.specs.Work.{Plan}
use Rattle.sx_uses.specs.Laws.{AnswerAlike}
use Rattle.sx_accepting.specs.Alike.{StopsAtLanguage}
pub use Rattle.sx_compiling.specs.Laws.{HasNoType, HasUnsoundRule}
use Rattle.sx_compiling.specs.Laws.{ShowsFree as ShowsFreeOfUnit}
use Rattle.sx_compiling.specs.Reached.{HasDialect}
use Rattle.sx_compile.specs.CompileModule.{CompilesModule}
use Rattle.sx_compile.specs.Found.{IsModule, IsModuleFound, given_from}

-- ---- one result

-- the stop is that of the file of the language, about a line that has more than two readings
pub record IsOfCompiledLanguage (name : List ℕ) (files : Files) (stop : Stop) : Type 0 where
  pub from : IsModule name files
  pub stops : StopsAtLanguage from.read.header.language files stop

-- the text of which the stop shows two readings is one that has more than two: a line of the
-- language's file, or a text of the unit's module, of its imports or of its extensions
abbrev pub CompileShowsFree : (name : List ℕ) → Budgets → Files → Stop → Type 0
CompileShowsFree name budgets files s = IsOfCompiledLanguage name files s
    ⊎ ((f : IsModuleFound name files) × ShowsFreeOfUnit budgets files (given_from f) s)

-- the stops give the same status and the same line, but for the two readings that they show of one
-- such text
abbrev pub CompilesAlikeButShown : (name : List ℕ) → Budgets → Files → Stop → Stop → Type 0
CompilesAlikeButShown name budgets files s t =
    AnswerAlike s t ⊎ (AreReadings s t × CompileShowsFree name budgets files s)

-- by the name, the budgets, the auditors and the files there is one result and one number of tries,
-- but for read faults, out of memory and such readings
abbrev pub CompilesAgree : Type 0
CompilesAgree =
    (name : List ℕ) (budgets : Budgets) (auditors : List Meaning) (files : Files)
    (a b : Result Plan StepError) (m n : ℕ) → CompilesModule name budgets auditors files a m →
    CompilesModule name budgets auditors files b n → IsSure a → IsSure b →
    AnswersBy (CompilesAlikeButShown name budgets files) a b × (m ≡ n)

-- ---- type errors

-- it stops with a type error only where the module has no type by the rules of its dialect, or a
-- rule of one of its extensions is not sound
abbrev pub CompileTypeErrorsAreFinal : Type 0
CompileTypeErrorsAreFinal =
    (name : List ℕ) (budgets : Budgets) (auditors : List Meaning) (files : Files) (stop : Stop)
    (tries : ℕ) → CompilesModule name budgets auditors files (Err (errors.Stopped stop)) tries →
    IsTypeError stop → (f : IsModuleFound name files)
    × (HasNoType budgets files (given_from f) stop
    ⊎ HasUnsoundRule budgets files (given_from f) stop)

-- ---- tries

-- There is at most one walk for each rule of the extensions, which are with the language's rules at
-- most 4,096, and one for the module; and a walk makes no more tries than it may spend.
pub record CompileWalksAreWithin : Type 0 where
  pub compiled : (name : List ℕ) (budgets : Budgets) (auditors : List Meaning) (files : Files)
      (plan : Plan) (tries : ℕ) → CompilesModule name budgets auditors files (Ok plan) tries →
      (f : IsModuleFound name files) × (d : HasDialect budgets files (given_from f))
      × (tries ≤ suc (length d.extended.set.kept.more) * budgets.tries)
  pub all : (name : List ℕ) (budgets : Budgets) (auditors : List Meaning) (files : Files)
      (result : Result Plan StepError) (tries : ℕ) →
      CompilesModule name budgets auditors files result tries → tries ≤ 4097 * budgets.tries
