-- What is proved of `sample N`.
use Rattle.std.specs.Prelude.{◌≡◌, ◌⊎◌, ℕ, suc, ◌*◌, ◌≤◌, length, Result, Ok, Err}
use Rattle.sx_steps.specs.declared.stop.Stop.{Stop}
use Rattle.sx_steps.specs.declared.step_error.StepError.{StepError}
use Rattle.sx_steps.specs.declared.step_error.StepError.TheVariants as errors
use Rattle.sx_steps.specs.Agree.{AreReadings, IsSure, AnswersBy}
use Rattle.sx_steps.specs.TypeErrors.{IsTypeError}
use Rattle.sx_steps.specs.Work.{Plan}
use Rattle.sx_uses.specs.Laws.{AnswerAlike}
use Rattle.sx_accepting.specs.Alike.{StopsAtLanguage}
use Rattle.sx_headers.specs.ReadModule.{Module, ReadsModule}
use Rattle.sx_compiling.specs.Laws.{HasNoType, HasUnsoundRule}
use Rattle.sx_compiling.specs.Laws.{ShowsFree as ShowsFreeOfUnit}
use Rattle.sx_compiling.specs.Reached.{HasDialect}
use Rattle.sx_sample.specs.Holding.{sample_files}
use Rattle.sx_sampling.specs.SampleSteps.{sample_name, sample_file, sample_budgets, Samples}
use Rattle.sx_sampling.specs.Found.{IsSampleFound, sample_given}
use Rattle.sx_term.specs.Limits.{most_budget}

-- ---- one result

-- the stop is that of the file of the language, about a line that has more than two readings
pub record IsOfSampleLanguage (number : ℕ) (stop : Stop) : Type 0 where
  pub read : Module
  pub reads : ReadsModule sample_file sample_name (sample_files number) (Ok read)
  pub stops : StopsAtLanguage read.header.language (sample_files number) stop

-- the text of which the stop shows two readings is one that has more than two: a line of the
-- language's file, or a text of the sample, of its imports or of its extensions
abbrev pub SampleShowsFree : (number : ℕ) → Stop → Type 0
SampleShowsFree number s = IsOfSampleLanguage number s
    ⊎ ((f : IsSampleFound number) × ShowsFreeOfUnit sample_budgets (sample_files number)
    (sample_given f) s)

-- the stops give the same status and the same line, but for the two readings that they show of one
-- such text
abbrev pub SamplesAlikeButShown : (number : ℕ) → Stop → Stop → Type 0
SamplesAlikeButShown number s t = AnswerAlike s t ⊎ (AreReadings s t × SampleShowsFree number s)

-- by the number of names there is one result and one number of tries, but for read faults, out of
-- memory and such readings
abbrev pub SamplesAgree : Type 0
SamplesAgree =
    (number : ℕ) (a b : Result Plan StepError) (m n : ℕ) → Samples number a m →
    Samples number b n → IsSure a → IsSure b → AnswersBy (SamplesAlikeButShown number) a b × (m ≡ n)

-- ---- type errors

-- it stops with a type error only where the sample has no type by the rules of its dialect, or a
-- rule of one of its extensions is not sound
abbrev pub SampleTypeErrorsAreFinal : Type 0
SampleTypeErrorsAreFinal =
    (number : ℕ) (stop : Stop) (tries : ℕ) → Samples number (Err (errors.Stopped stop)) tries →
    IsTypeError stop → (f : IsSampleFound number)
    × (HasNoType sample_budgets (sample_files number) (sample_given f) stop
    ⊎ HasUnsoundRule sample_budgets (sample_files number) (sample_given f) stop)

-- ---- tries

-- There is at most one walk for each rule of the extensions, which are with the language's rules
-- at most 4,096, and one for the sample; and a walk makes at most 1,000,000 tries.
pub record SampleWalksAreWithin : Type 0 where
  pub sampled : (number : ℕ) (plan : Plan) (tries : ℕ) → Samples number (Ok plan) tries →
      (f : IsSampleFound number) × (d : HasDialect sample_budgets (sample_files number)
      (sample_given f))
      × (tries ≤ suc (length d.extended.set.kept.more) * most_budget)
  pub all : (number : ℕ) (result : Result Plan StepError) (tries : ℕ) →
      Samples number result tries → tries ≤ 4097 * most_budget
