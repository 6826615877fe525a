-- Laws of what runs come to.
use Rattle.std.specs.Prelude.{◌≡◌, ◌⊎◌, ℕ, true, false, List, Result, Ok, Err, None}
use Rattle.sx_outside.specs.Files.{Files}
use Rattle.sx_extcheck.specs.declared.budgets.Budgets.{Budgets}
use Rattle.sx_rules.specs.Views.{modes_of}
use Rattle.sx_rules.specs.First.{IsUnderivable}
use Rattle.sx_core.specs.Problem.{Problem}
use Rattle.sx_words.specs.Commands.{Meant, builds, compiles, checks, verifies, samples}
use Rattle.sx_steps.specs.declared.stop.Stop.{Stop}
use Rattle.sx_steps.specs.declared.step_error.StepError.{StepError}
use Rattle.sx_steps.specs.declared.step_error.StepError.TheVariants as errors
use Rattle.sx_steps.specs.Agree.{IsSure, AnswersBy}
use Rattle.sx_steps.specs.TypeErrors.{IsTypeError}
use Rattle.sx_steps.specs.Work.{Plan}
use Rattle.sx_build.specs.Laws.{BuildsAlikeButShown, IsTurnOf, given_at}
use Rattle.sx_check.specs.Laws.{SameButLines, ReachesUnsoundRule}
use Rattle.sx_verify.specs.Laws.{VerifiesAlikeButShown as VerifiesSame}
use Rattle.sx_compile.specs.Laws.{HasNoType as UnitHasNoType}
use Rattle.sx_compile.specs.Laws.{HasUnsoundRule as UnitHasUnsoundRule}
use Rattle.sx_compile.specs.Found.{IsModuleFound, given_from}
use Rattle.sx_compile.specs.Laws.{CompilesAlikeButShown as CompilesSame}
use Rattle.sx_sample.specs.Holding.{sample_files}
use Rattle.sx_sampling.specs.SampleSteps.{sample_budgets}
use Rattle.sx_sampling.specs.Found.{IsSampleFound, sample_given as given_from_sample}
use Rattle.sx_sampling.specs.Laws.{SamplesAlikeButShown as SamplesSame}
use Rattle.sx_audit.specs.Meaning.{Meaning}
use Rattle.sx_top.specs.Calls.{Call}
use Rattle.sx_words.specs.Commands.{SpellsCommand}
use Rattle.sx_top.specs.FindFirst.{problem_rules}
use Rattle.sx_rules.specs.Rules.{no_hypotheses}
use Rattle.sx_top.specs.Outcome.{budgets_of, NamesFor, RunOutcome}
use Rattle.sx_top.specs.ReadCore.{core_file, ReadsCore}

-- ---- one outcome

-- the command is `build --core` or `verify --core`
abbrev pub IsOfCore : Meant → Type 0
IsOfCore (builds true name tries nodes audits) = Unit {0}
IsOfCore (builds false name tries nodes audits) = ⊥
IsOfCore (compiles name tries nodes audits) = ⊥
IsOfCore (checks name tries nodes) = ⊥
IsOfCore (verifies true name) = Unit {0}
IsOfCore (verifies false name) = ⊥
IsOfCore (samples number) = ⊥

-- words that spell such a command or none have with the files one outcome and one number of tries,
-- read faults and out of memory aside
abbrev pub OneCoreOutcome : Type 0
OneCoreOutcome =
    (c : Call) → ((command : Meant) → SpellsCommand c.words command → IsOfCore command) →
    (files : Files) (a b : Result Plan StepError) (m n : ℕ) →
    RunOutcome c files a m → RunOutcome c files b n → IsSure a → IsSure b → (a ≡ b) × (m ≡ n)

-- the stops of the command with these auditors are the same; for a module or an extension they give
-- the same status and the same line, but for two readings that they show of a text with more than
-- two
abbrev pub SameFor : Meant → List Meaning → Files → Stop → Stop → Type 0
SameFor (builds false name tries nodes audits) named files s t =
    BuildsAlikeButShown name (budgets_of tries nodes) named files s t
SameFor (compiles name tries nodes audits) named files s t =
    CompilesSame name (budgets_of tries nodes) files s t
SameFor (checks name tries nodes) named files s t =
    SameButLines name (budgets_of tries nodes) files s t
SameFor (verifies false name) named files s t = VerifiesSame name files s t
SameFor (samples number) named files s t = SamplesSame number s t
SameFor (builds true name tries nodes audits) named files s t = s ≡ t
SameFor (verifies true name) named files s t = s ≡ t

-- the stops are the same, or so for the command that the words spell and the auditors that it names
abbrev pub SameStops : Call → Files → Stop → Stop → Type 0
SameStops c files s t = (s ≡ t) ⊎
    ((command : Meant) × (named : List Meaning) × SpellsCommand c.words command ×
    NamesFor c.auditors command (Ok named) × SameFor command named files s t)

-- words and files have one outcome and one number of tries, but for read faults, out of memory and
-- such readings
abbrev pub OneOutcome : Type 0
OneOutcome =
    (c : Call) (files : Files) (a b : Result Plan StepError) (m n : ℕ) →
    RunOutcome c files a m → RunOutcome c files b n → IsSure a → IsSure b →
    AnswersBy (SameStops c files) a b × (m ≡ n)

-- ---- type errors

-- the core file states a goal that has no derivation by its rules, of whatever depth and size
pub record HasNoDerivation (name : List ℕ) (files : Files) : Type 0 where
  pub problem : Problem
  pub reads : ReadsCore (core_file name) files (Ok problem)
  pub none : IsUnderivable (modes_of problem.forms) (problem_rules problem) no_hypotheses
      problem.goal None

-- one of the modules of the closure, after those before it were made, has no type, or a rule of one
-- of its extensions is not sound
abbrev pub BuildsUntyped : (name : List ℕ) → Budgets → List Meaning → Files → Stop → Type 0
BuildsUntyped name budgets auditors files stop = (t : IsTurnOf name budgets auditors files) ×
    (UnitHasNoType budgets files (given_at t) stop
    ⊎ UnitHasUnsoundRule budgets files (given_at t) stop)

-- what the module is compiled from is found, and the module has no type, or a rule of one of its
-- extensions is not sound
abbrev pub CompilesUntyped : (name : List ℕ) → Budgets → Files → Stop → Type 0
CompilesUntyped name budgets files stop = (f : IsModuleFound name files) ×
    (UnitHasNoType budgets files (given_from f) stop
    ⊎ UnitHasUnsoundRule budgets files (given_from f) stop)

-- the sample's module has no type, or a rule of its extension is not sound
abbrev pub SampleUntyped : (number : ℕ) → Stop → Type 0
SampleUntyped number stop = (f : IsSampleFound number) ×
    (UnitHasNoType sample_budgets (sample_files number) (given_from_sample f) stop
    ⊎ UnitHasUnsoundRule sample_budgets (sample_files number) (given_from_sample f) stop)

-- The goal that the command derives has no derivation, or the rule that the stop is about, of an
-- extension that it checks or uses, is not sound. `verify` derives no goal.
abbrev pub IsUntypedCommand : Meant → List Meaning → Files → Stop → Type 0
IsUntypedCommand (builds true name tries nodes audits) named files stop = HasNoDerivation name files
IsUntypedCommand (builds false name tries nodes audits) named files stop =
    BuildsUntyped name (budgets_of tries nodes) named files stop
IsUntypedCommand (compiles name tries nodes audits) named files stop =
    CompilesUntyped name (budgets_of tries nodes) files stop
IsUntypedCommand (checks name tries nodes) named files stop =
    ReachesUnsoundRule name (budgets_of tries nodes) files stop
IsUntypedCommand (samples number) named files stop = SampleUntyped number stop
IsUntypedCommand (verifies of_core name) named files stop = ⊥

-- a run stops with a type error only where the command's goal has no derivation at all, or the rule
-- that the stop is about is not sound
abbrev pub TypeErrorsAreFinal : Type 0
TypeErrorsAreFinal =
    (c : Call) (files : Files) (stop : Stop) (tries : ℕ) →
    RunOutcome c files (Err (errors.Stopped stop)) tries → IsTypeError stop →
    (command : Meant) × (named : List Meaning) × SpellsCommand c.words command ×
    NamesFor c.auditors command (Ok named) × IsUntypedCommand command named files stop
