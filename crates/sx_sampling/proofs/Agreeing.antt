-- `sample N` has one result, but for read faults and for two readings that a stop shows of a text
-- that has more.
use Rattle.std.proofs.Common.{◌≡◌, ℕ, refl, sym, ap, ◌∙◌, inl, inr}
use Rattle.std.specs.Prelude.{Ok}
use Rattle.sx_unit.specs.Written.{UnitData}
use Rattle.sx_outside.specs.Files.{Files}
use Rattle.sx_steps.specs.declared.stop.Stop.{Stop}
use Rattle.sx_steps.specs.Refusal.{status_of, line_of}
use Rattle.sx_steps.specs.Steps.{NoTries, Untried}
use Rattle.sx_steps.proofs.Ones.{IsOne, IsOneBy, and_then_by, answers_so, trying_same}
use Rattle.sx_steps.proofs.Ones.{no_tries_one}
use Rattle.sx_accepting.specs.ReadLanguage.{Stated, ReadsLanguage}
use Rattle.sx_accepting.specs.Alike.{StopsAtLanguage, SameButReadings}
use Rattle.sx_accepting.proofs.OneLanguageFile.{languages_agree}
use Rattle.sx_headers.specs.ReadModule.{Module, ReadsModule}
use Rattle.sx_headers.proofs.OneHeaders.{reads_module_one}
use Rattle.sx_importing.specs.ReadImports.{ReadsImports}
use Rattle.sx_importing.proofs.OneImports.{reads_imports_one}
use Rattle.sx_compiling.specs.Laws.{UnitsAgree}
use Rattle.sx_compiling.specs.Laws.{SameButShown as UnitShown}
use Rattle.sx_compiling.specs.MakeUnit.{MakesUnit}
use Rattle.sx_sample.specs.Holding.{sample_files}
use Rattle.sx_sampling.specs.SampleSteps.{sample_name, sample_file, sample_budgets, given_for_sample}
use Rattle.sx_sampling.specs.SampleSteps.{MakesOver, MakesRead, MakesSample, PlansSample}
use Rattle.sx_sampling.specs.Found.{IsSampleFound, sample_given}
use Rattle.sx_sampling.specs.Laws.{SamplesAlikeButShown, SamplesAgree}
use Rattle.sx_sampling.proofs.FoundModules.{language_of}

plans_one : (number : ℕ) (unit : UnitData) → IsOne (PlansSample number unit)
plans_one number unit x y h k f g = h ∙ sym k

module _ (units : UnitsAgree) (number : ℕ) where
  abbrev files : Files
  files = sample_files number

  abbrev Related : Stop → Stop → Type 0
  Related = SamplesAlikeButShown number

  same_alike : (s t : Stop) → s ≡ t → Related s t
  same_alike s t e = inl (record { status = ap status_of e; line = ap line_of e })

  alike : (s : Stop) → Related s s
  alike s = same_alike s s refl

  -- the unit
  module _ (f : IsSampleFound number) where
    of_unit : (s t : Stop) → UnitShown sample_budgets files (sample_given f) s t → Related s t
    of_unit s t (inl same) = inl same
    of_unit s t (inr (are, free)) = inr (are, inr (f, free))

    unit_by : IsOneBy Related (MakesUnit sample_budgets files (sample_given f))
    unit_by a b m n h k p q =
        let one = units sample_budgets files (sample_given f) a b m n (language_of number f) h k p q
        in (
          answers_so (UnitShown sample_budgets files (sample_given f)) Related of_unit a b one.0,
          one.1,
        )

  -- the files
  module _ (m : Module) (reads : ReadsModule sample_file sample_name files (Ok m)) where
    over_by : (l : Stated) → ReadsLanguage m.header.language files (Ok l) →
        IsOneBy Related (MakesOver files m l)
    over_by l states =
        and_then_by Related (Untried (ReadsImports files m.header.imports))
        (λ its. MakesUnit sample_budgets files (given_for_sample m l its))
        (trying_same Related alike NoTries (ReadsImports files m.header.imports) no_tries_one
        (reads_imports_one files m.header.imports))
        (λ its before h. unit_by (record {
          read = m;
          reads = reads;
          language = l;
          states = states;
          imports = its;
          imported = h.0;
        }))

    abbrev SameLanguages : Stop → Stop → Type 0
    SameLanguages = SameButReadings (StopsAtLanguage m.header.language files)

    of_language : (s t : Stop) → SameLanguages s t → Related s t
    of_language s t (inl same) = same_alike s t same
    of_language s t (inr (are, stops)) =
        inr (are, inl (record { read = m; reads = reads; stops = stops }))

    read_by : IsOneBy Related (MakesRead files m)
    read_by =
        and_then_by Related (Untried (ReadsLanguage m.header.language files)) (MakesOver files m)
        (λ a b i j h k p q.
        let one = languages_agree m.header.language files a b i j h k p q in
        (answers_so SameLanguages Related of_language a b one.0, one.1))
        (λ l before h. over_by l h.0)

  sample_by : IsOneBy Related (MakesSample files)
  sample_by =
      and_then_by Related (Untried (ReadsModule sample_file sample_name files)) (MakesRead files)
      (trying_same Related alike NoTries (ReadsModule sample_file sample_name files) no_tries_one
      (reads_module_one sample_file sample_name files))
      (λ m before h. read_by m h.0)

pub samples_agree : UnitsAgree → SamplesAgree
samples_agree units number =
    and_then_by (SamplesAlikeButShown number) (MakesSample (sample_files number))
    (λ unit. Untried (PlansSample number unit)) (sample_by units number)
    (λ unit before made. trying_same (SamplesAlikeButShown number) (alike units number) NoTries
    (PlansSample number unit) no_tries_one (plans_one number unit))
