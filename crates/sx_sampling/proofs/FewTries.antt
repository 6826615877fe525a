-- How many tries `sample N` makes at most.
use Rattle.std.proofs.Common.{ℕ, suc, ◌*◌, ◌≤◌, length}
use Rattle.std.specs.Prelude.{Ok}
use Rattle.sx_outside.specs.Files.{Files}
use Rattle.sx_steps.specs.Work.{Plan}
use Rattle.sx_accepting.specs.ReadLanguage.{ReadsLanguage}
use Rattle.sx_headers.specs.ReadModule.{ReadsModule}
use Rattle.sx_importing.specs.ReadImports.{ReadsImports}
use Rattle.sx_compiling.specs.Laws.{UnitsWalksAreWithin as UnitsWithin}
use Rattle.sx_compiling.specs.MakeUnit.{MakesUnit}
use Rattle.sx_compiling.specs.Reached.{HasDialect}
use Rattle.sx_compiling.proofs.StepTries.{Most, untried_most, most_untried}
use Rattle.sx_sample.specs.Holding.{sample_files}
use Rattle.sx_sampling.specs.SampleSteps.{sample_name, sample_file, sample_budgets, given_for_sample}
use Rattle.sx_sampling.specs.SampleSteps.{MakesOver, MakesRead, MakesSample, PlansSample, Samples}
use Rattle.sx_sampling.specs.Found.{IsSampleFound, sample_given}
use Rattle.sx_sampling.specs.Laws.{SampleWalksAreWithin}
use Rattle.sx_sampling.proofs.FoundModules.{language_of}
use Rattle.sx_sampling.proofs.Promise.{plan_made}

module _ (units : UnitsWithin) (number : ℕ) where
  abbrev files : Files
  files = sample_files number

  abbrev most : ℕ
  most = 4097 * sample_budgets.tries

  unit_most : (f : IsSampleFound number) →
      Most (MakesUnit sample_budgets files (sample_given f)) most
  unit_most f result tries h =
      units.all sample_budgets files (sample_given f) result tries (language_of number f) h

  sample_most : Most (MakesSample files) most
  sample_most =
      untried_most (ReadsModule sample_file sample_name files) (MakesRead files) most
      (λ m reads. untried_most (ReadsLanguage m.header.language files) (MakesOver files m) most
      (λ l states. untried_most (ReadsImports files m.header.imports)
      (λ its. MakesUnit sample_budgets files (given_for_sample m l its)) most
      (λ its imported. unit_most (record {
        read = m;
        reads = reads;
        language = l;
        states = states;
        imports = its;
        imported = imported;
      }))))

  all_most : Most (Samples number) most
  all_most = most_untried (MakesSample files) (λ unit. PlansSample number unit) most sample_most

  sampled_within : (plan : Plan) (tries : ℕ) → Samples number (Ok plan) tries →
      (f : IsSampleFound number) × (d : HasDialect sample_budgets files (sample_given f))
      × (tries ≤ suc (length d.extended.set.kept.more) * sample_budgets.tries)
  sampled_within plan tries h =
      let planned = plan_made number plan tries h in
      let f = planned.made.found in
      let within = units.made sample_budgets files (sample_given f) planned.unit tries
      (language_of number f) planned.made.makes in
      (f, within.0, within.1)

pub sample_walks_are_within : UnitsWithin → SampleWalksAreWithin
sample_walks_are_within units = record {
  sampled = sampled_within units;
  all = all_most units;
}
