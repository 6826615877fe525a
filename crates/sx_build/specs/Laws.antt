-- What is proved of `build NAME`.
use Rattle.std.specs.Prelude.{◌≡◌, ◌⊎◌, ℕ, ◌*◌, ◌≤◌, List, ◌∷◌, ◌++◌, length, Result, Ok, Err}
use Rattle.sx_audit.specs.Meaning.{Meaning}
use Rattle.sx_extcheck.specs.declared.budgets.Budgets.{Budgets}
use Rattle.sx_outside.specs.Files.{Files}
use Rattle.sx_steps.specs.declared.stop.Stop.{Stop}
use Rattle.sx_steps.specs.declared.step_error.StepError.{StepError}
use Rattle.sx_steps.specs.declared.step_error.StepError.TheVariants as errors
use Rattle.sx_steps.specs.Agree.{AreReadings, IsSure, AnswersBy}
use Rattle.sx_steps.specs.TypeErrors.{IsTypeError}
use Rattle.sx_steps.specs.Work.{Plan}
use Rattle.sx_walking.specs.Laws.{AnswerAlike}
use Rattle.sx_accepting.specs.Alike.{StopsAtLanguage}
use Rattle.sx_accepting.specs.ReadLanguage.{Stated, ReadsLanguage}
use Rattle.sx_headers.specs.ReadModule.{Module}
use Rattle.sx_importing.specs.ReadImports.{ImportData, ReadsImports}
use Rattle.sx_compiling.specs.Given.{GivenModule}
use Rattle.sx_compiling.specs.Laws.{HasNoType, HasUnsoundRule}
use Rattle.sx_compiling.specs.Laws.{ShowsFree as ShowsFreeOfUnit}
use Rattle.sx_closure.specs.ReadModules.{ReadsModules}
use Rattle.sx_build.specs.BuildModules.{BuildProgress, none_made, given_in, language_in, MakesAfter}
use Rattle.sx_build.specs.BuildModules.{BuildsModule}
use Rattle.sx_build.specs.MadeModules.{with_made}

-- ---- what a module is made from

-- the modules of the closure, and their language
pub record IsClosureFound (name : List ℕ) (files : Files) : Type 0 where
  pub modules : List Module
  pub reads : ReadsModules name files (Ok modules)
  pub language : Stated
  pub states : ReadsLanguage (language_in modules) files (Ok language)

-- It is the turn of one of the modules: those before it were made, and then the interfaces of its
-- imports were read, as they are once the files of those were written.
pub record IsTurnOf (name : List ℕ) (budgets : Budgets) (auditors : List Meaning) (files : Files) :
    Type 0 where
  pub found : IsClosureFound name files
  pub before : List Module
  pub own : Module
  pub behind : List Module
  pub stands : found.modules ≡ before ++ own ∷ behind
  pub progress : BuildProgress
  pub tries : ℕ
  pub makes : MakesAfter budgets files found.language (none_made auditors) before
      (Ok progress) tries
  pub imports : List ImportData
  pub imported : ReadsImports (with_made progress.made files) own.header.imports (Ok imports)

-- what the unit of this one is made from
abbrev pub given_at : {name : List ℕ} {budgets : Budgets} {auditors : List Meaning}
    {files : Files} → IsTurnOf name budgets auditors files → GivenModule
given_at t = given_in t.found.language t.own t.imports

-- ---- one result

-- the stop is that of the file of the language, about a line that has more than two readings
pub record IsOfLanguage (name : List ℕ) (files : Files) (stop : Stop) : Type 0 where
  pub modules : List Module
  pub reads : ReadsModules name files (Ok modules)
  pub stops : StopsAtLanguage (language_in modules) files stop

-- the text of which the stop shows two readings is one that has more than two: a line of the
-- language's file, or a text of the unit of one of the modules, of its imports or of its extensions
abbrev pub BuildShowsFree : (name : List ℕ) → Budgets → List Meaning → Files → Stop → Type 0
BuildShowsFree name budgets auditors files s = IsOfLanguage name files s
    ⊎ ((t : IsTurnOf name budgets auditors files) × ShowsFreeOfUnit budgets files (given_at t) s)

-- the stops give the same status and the same line, but for the two readings that they show of one
-- such text
abbrev pub BuildsAlikeButShown : (name : List ℕ) → Budgets → List Meaning → Files → Stop →
    Stop → Type 0
BuildsAlikeButShown name budgets auditors files s t =
    AnswerAlike s t ⊎ (AreReadings s t × BuildShowsFree name budgets auditors files s)

-- by the name, the budgets, the auditors and the files there is one result and one number of tries,
-- but for read faults, out of memory and such readings
abbrev pub BuildsAgree : Type 0
BuildsAgree =
    (name : List ℕ) (budgets : Budgets) (auditors : List Meaning) (files : Files)
    (a b : Result Plan StepError) (m n : ℕ) → BuildsModule name budgets auditors files a m →
    BuildsModule name budgets auditors files b n → IsSure a → IsSure b →
    AnswersBy (BuildsAlikeButShown name budgets auditors files) a b × (m ≡ n)

-- ---- type errors

-- it stops with a type error only where one of the modules, after those before it were made, has no
-- type by the rules of its dialect, or a rule of one of its extensions is not sound
abbrev pub BuildTypeErrorsAreFinal : Type 0
BuildTypeErrorsAreFinal =
    (name : List ℕ) (budgets : Budgets) (auditors : List Meaning) (files : Files) (stop : Stop)
    (tries : ℕ) → BuildsModule name budgets auditors files (Err (errors.Stopped stop)) tries →
    IsTypeError stop → (t : IsTurnOf name budgets auditors files)
    × (HasNoType budgets files (given_at t) stop ⊎ HasUnsoundRule budgets files (given_at t) stop)

-- ---- tries

-- Of each module there is at most one walk for each rule of its extensions, which are with the
-- language's rules at most 4,096, and one for itself; and a walk makes no more tries than it may
-- spend. There are at most 256 modules.
pub record BuildWalksAreWithin : Type 0 where
  pub built : (name : List ℕ) (budgets : Budgets) (auditors : List Meaning) (files : Files)
      (plan : Plan) (tries : ℕ) → BuildsModule name budgets auditors files (Ok plan) tries →
      (f : IsClosureFound name files) × (tries ≤ length f.modules * (4097 * budgets.tries))
  pub all : (name : List ℕ) (budgets : Budgets) (auditors : List Meaning) (files : Files)
      (result : Result Plan StepError) (tries : ℕ) →
      BuildsModule name budgets auditors files result tries →
      tries ≤ 256 * (4097 * budgets.tries)
