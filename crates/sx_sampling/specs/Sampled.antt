-- What `sample N` promises.
use Rattle.std.specs.Prelude.{◌≡◌, ℕ, List, Ok}
use Rattle.sx_unit.specs.Written.{UnitData}
use Rattle.sx_outside.specs.Files.{Files, after_writes}
use Rattle.sx_steps.specs.Work.{Plan}
use Rattle.sx_compiling.specs.Headline.{HasUnit, HasHeadline}
use Rattle.sx_sample.specs.Holding.{sample_files}
use Rattle.sx_sample.specs.Summaries.{summary_line}
use Rattle.sx_sampling.specs.SampleSteps.{sample_name, sample_budgets, summary_in, Samples}
use Rattle.sx_sampling.specs.Found.{IsSampleFound, sample_given}

-- There is a unit of the module Sample with so many names in its dialect, over the files that it
-- needs alone. All files are as before, and the line tells how big the unit is.
pub record Sampled (number : ℕ) (old new : Files) (lines : List ℕ) : Type 0 where
  pub found : IsSampleFound number
  pub unit : UnitData
  pub made : HasUnit sample_budgets (sample_files number) (sample_given found) unit
  pub files : (file : List ℕ) → new file ≡ old file
  pub told : lines ≡ summary_line (summary_in number unit)

-- where it ends with a plan, and the files are as this leaves them, it promises this
abbrev pub SamplesKeepPromise : Type 0
SamplesKeepPromise =
    (number : ℕ) (old new : Files) (plan : Plan) (tries : ℕ) → Samples number (Ok plan) tries →
    new ≡ after_writes plan.files old → Sampled number old new plan.lines

-- and the unit whose size it tells has the headline
abbrev pub SampledHaveHeadline : Type 0
SampledHaveHeadline =
    (number : ℕ) (old new : Files) (lines : List ℕ) → (s : Sampled number old new lines) →
    HasHeadline sample_name sample_budgets (sample_files number) (sample_given s.found) s.unit
