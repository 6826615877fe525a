-- `sample N` keeps its promise.
use Rattle.std.proofs.Common.{◌≡◌, ℕ, ◌+◌, refl, ap, ◌∙◌, subst, arith}
use Rattle.std.specs.Prelude.{true, false, Result, Ok, Err}
use Rattle.sx_lines.specs.Words.{is_name}
use Rattle.sx_unit.specs.Written.{UnitData}
use Rattle.sx_outside.specs.Files.{Files, after_writes}
use Rattle.sx_steps.specs.declared.step_error.StepError.{StepError}
use Rattle.sx_steps.specs.Steps.{Untried, GoesOn}
use Rattle.sx_steps.specs.Work.{Plan}
use Rattle.sx_steps.proofs.Ones.{ok_same, ok_no_err}
use Rattle.sx_accepting.specs.ReadLanguage.{ReadsLanguage}
use Rattle.sx_headers.specs.ReadModule.{ReadsModule}
use Rattle.sx_importing.specs.ReadImports.{ReadsImports}
use Rattle.sx_compiling.specs.Headline.{UnitsHaveHeadline}
use Rattle.sx_compiling.specs.MakeUnit.{MakesUnit}
use Rattle.sx_compiling.proofs.MadeUnits.{units_keep_promise}
use Rattle.sx_compiling.proofs.StepTries.{passed}
use Rattle.sx_sample.specs.Holding.{sample_files}
use Rattle.sx_sampling.specs.SampleSteps.{sample_name, sample_file, sample_budgets, given_for_sample}
use Rattle.sx_sampling.specs.SampleSteps.{MakesOver, MakesRead, MakesSample, sample_plan}
use Rattle.sx_sampling.specs.SampleSteps.{PlansSample, Samples}
use Rattle.sx_sampling.specs.Found.{IsSampleFound, sample_given}
use Rattle.sx_sampling.specs.Sampled.{SamplesKeepPromise, SampledHaveHeadline}
use Rattle.sx_sampling.proofs.FoundModules.{language_of, module_of}

module _ (number : ℕ) where
  abbrev files : Files
  files = sample_files number

  -- the unit that is made from what is found, with so many tries
  pub record HasMade (unit : UnitData) (tries : ℕ) : Type 0 where
    pub found : IsSampleFound number
    pub makes : MakesUnit sample_budgets files (sample_given found) (Ok unit) tries

  made_of : (unit : UnitData) (tries : ℕ) → MakesSample files (Ok unit) tries →
      HasMade unit tries
  made_of unit tries h =
      let read = passed (ReadsModule sample_file sample_name files) (MakesRead files) unit tries h
      in
      let m = read.given in
      let over = passed (ReadsLanguage m.header.language files) (MakesOver files m) unit tries
      read.goes in
      let l = over.given in
      let imports = passed (ReadsImports files m.header.imports)
      (λ its. MakesUnit sample_budgets files (given_for_sample m l its)) unit tries over.goes in
      record {
        found = record {
          read = m;
          reads = read.begins;
          language = l;
          states = over.begins;
          imports = imports.given;
          imported = imports.begins;
        };
        makes = imports.goes;
      }

  -- the plan is that of the unit, which is made with all the tries
  pub record HasPlan (plan : Plan) (tries : ℕ) : Type 0 where
    pub unit : UnitData
    pub made : HasMade unit tries
    pub is : plan ≡ sample_plan number unit

  plan_so : (plan : Plan) (tries : ℕ) (given : Result UnitData StepError) (before after : ℕ) →
      MakesSample files given before →
      GoesOn (λ unit. Untried (PlansSample number unit)) given (Ok plan) after →
      tries ≡ before + after → HasPlan plan tries
  plan_so plan tries (Ok unit) before after begins goes sum =
      let none : after ≡ 0 = goes.1 in
      let same : before ≡ tries = omega (arith, none, sum) in
      record {
        unit = unit;
        made = made_of unit tries
            (subst (λ (n : ℕ). MakesSample files (Ok unit) n) same begins);
        is = ok_same plan (sample_plan number unit) goes.0;
      }
  plan_so plan tries (Err e) before after begins goes sum = absurd (ok_no_err plan e goes.0)

  pub plan_made : (plan : Plan) (tries : ℕ) → Samples number (Ok plan) tries → HasPlan plan tries
  plan_made plan tries h = plan_so plan tries h.given h.before h.after h.begins h.goes h.sum

pub samples_keep_promise : SamplesKeepPromise
samples_keep_promise number old new plan tries samples files_are =
    let planned = plan_made number plan tries samples in
    let f = planned.made.found in
    let left : new ≡ old =
    files_are ∙ ap (λ (p : Plan). after_writes p.files old) planned.is in
    record {
      found = f;
      unit = planned.unit;
      made = units_keep_promise sample_budgets (sample_files number) (sample_given f) planned.unit tries
          (language_of number f) planned.made.makes;
      files = λ file. ap (λ (fs : Files). fs file) left;
      told = ap (λ (p : Plan). p.lines) planned.is;
    }

is_a_name : is_name false sample_name ≡ true
unfolding is_name
is_a_name = refl

pub sampled_have_headline : UnitsHaveHeadline → SampledHaveHeadline
sampled_have_headline units number old new lines s =
    units sample_name sample_budgets (sample_files number) (sample_given s.found) s.unit is_a_name
    (language_of number s.found) (module_of number s.found) s.made
