-- `sample N` stops with a type error only where the sample has no type, or where a rule of an
-- extension is not sound.
use Rattle.std.proofs.Common.{◌≡◌, ℕ, List, [], ◌∷◌, ◌++◌, inl, inr, ◌⊎◌, sym}
use Rattle.std.specs.Prelude.{Ok}
use Rattle.std.specs.Str.Lossy.{utf8_valid_len}
use Rattle.sha2.specs.Sha256.{sha256}
use Rattle.sx_unit.specs.Written.{UnitData}
use Rattle.sx_outside.specs.Files.{Files}
use Rattle.sx_steps.specs.declared.stop.Stop.{Stop}
use Rattle.sx_steps.specs.Held.{Held}
use Rattle.sx_term.specs.Limits.{most_bytes}
use Rattle.sx_steps.specs.Steps.{NoTries, Untried}
use Rattle.sx_steps.specs.Stops.{not_utf8}
use Rattle.sx_steps.specs.Unit.{interface_file}
use Rattle.sx_steps.proofs.Ones.{ok_no_err}
use Rattle.sx_steps.proofs.TypeErrors.{no_type_error, Final, FinalTrying, then_final}
use Rattle.sx_steps.proofs.TypeErrors.{trying_final, and_then_final, held_final}
use Rattle.sx_accepting.specs.ReadLanguage.{Stated, ReadsLanguage}
use Rattle.sx_accepting.proofs.TypeErrors.{reads_language_final}
use Rattle.sx_headers.specs.HeaderStops.{bad_header, version_stop}
use Rattle.sx_headers.specs.ReadInterface.{HeldInterface, StatesParts, ReadsInterface}
use Rattle.sx_headers.specs.ReadModule.{Module, StatesModule, ReadsModule}
use Rattle.sx_importing.specs.Each.{GivesNext, GivesAfter}
use Rattle.sx_importing.specs.ReadImports.{ImportData, ReadsImport, ReadsImports}
use Rattle.sx_compiling.specs.Laws.{HasNoType, HasUnsoundRule}
use Rattle.sx_compiling.specs.Laws.{TypeErrorsOfUnitsAreFinal as UnitsFinal}
use Rattle.sx_compiling.specs.MakeUnit.{MakesUnit}
use Rattle.sx_sample.specs.Holding.{sample_files}
use Rattle.sx_sampling.specs.SampleSteps.{sample_name, sample_file, sample_budgets, given_for_sample}
use Rattle.sx_sampling.specs.SampleSteps.{MakesOver, MakesRead, MakesSample, sample_plan}
use Rattle.sx_sampling.specs.SampleSteps.{PlansSample}
use Rattle.sx_sampling.specs.Found.{IsSampleFound, sample_given}
use Rattle.sx_sampling.specs.Laws.{SampleTypeErrorsAreFinal}
use Rattle.sx_sampling.proofs.FoundModules.{language_of}

-- ---- steps

module _ (Q : Stop → Type 0) where
  states_final : (file name bytes : List ℕ) → Final Q (StatesModule file name bytes)
  states_final file name bytes stop (inl h) =
      no_type_error Q (not_utf8 file (utf8_valid_len bytes)) stop (λ h. h) h.1
  states_final file name bytes stop (inr h) =
      no_type_error Q (bad_header file h.1.0) stop (λ h. h) h.1.2

  reads_final : (file name : List ℕ) (files : Files) → Final Q (ReadsModule file name files)
  reads_final file name files =
      then_final Q (Held most_bytes file files) (StatesModule file name)
      (held_final Q most_bytes file files) (λ bytes held. states_final file name bytes)

  parts_final : (file name bytes : List ℕ) → Final Q (StatesParts file name bytes)
  parts_final file name bytes stop (inl h) =
      no_type_error Q (not_utf8 file (utf8_valid_len bytes)) stop (λ h. h) h.1
  parts_final file name bytes stop (inr (utf8, inl h)) =
      no_type_error Q (version_stop file h.0) stop (λ h. h) h.2
  parts_final file name bytes stop (inr (utf8, inr h)) =
      no_type_error Q (bad_header file h.1.0) stop (λ h. h) h.1.2

  import_final : (files : Files) (name : List ℕ) → Final Q (ReadsImport files name)
  import_final files name =
      then_final Q (ReadsInterface (interface_file name) name files)
      (λ (i : HeldInterface) result.
      result ≡ Ok (record { parts = i.parts; digest = sha256 i.bytes }))
      (then_final Q (Held most_bytes (interface_file name) files)
      (StatesParts (interface_file name) name)
      (held_final Q most_bytes (interface_file name) files)
      (λ bytes held. parts_final (interface_file name) name bytes))
      (λ i read stop h. absurd (ok_no_err _ stop (sym h)))

  after_final : (files : Files) (given : List ImportData) (names : List (List ℕ)) →
      Final Q (GivesAfter (ReadsImport files) given names)
  after_final files given [] = λ stop h. absurd (ok_no_err given stop (sym h))
  after_final files given (name ∷ names) =
      then_final Q (GivesNext (ReadsImport files) given name)
      (λ next. GivesAfter (ReadsImport files) next names)
      (then_final Q (ReadsImport files name) (λ i result. result ≡ Ok (given ++ i ∷ []))
      (import_final files name)
      (λ i read stop h. absurd (ok_no_err (given ++ i ∷ []) stop (sym h))))
      (λ next read. after_final files next names)

  plans_final : (number : ℕ) (unit : UnitData) → Final Q (PlansSample number unit)
  plans_final number unit stop h = absurd (ok_no_err (sample_plan number unit) stop (sym h))

-- ---- the command

module _ (units : UnitsFinal) (number : ℕ) where
  abbrev files : Files
  files = sample_files number

  abbrev Q : Stop → Type 0
  Q stop = (f : IsSampleFound number) ×
      (HasNoType sample_budgets files (sample_given f) stop
      ⊎ HasUnsoundRule sample_budgets files (sample_given f) stop)

  unit_final : (f : IsSampleFound number) →
      FinalTrying Q (MakesUnit sample_budgets files (sample_given f))
  unit_final f stop tries h error = (
    f,
    units sample_budgets files (sample_given f) stop tries (language_of number f) h error,
  )

  module _ (m : Module) (reads : ReadsModule sample_file sample_name files (Ok m)) where
    over_final : (l : Stated) → ReadsLanguage m.header.language files (Ok l) →
        FinalTrying Q (MakesOver files m l)
    over_final l states =
        and_then_final Q (Untried (ReadsImports files m.header.imports))
        (λ its. MakesUnit sample_budgets files (given_for_sample m l its))
        (trying_final Q NoTries (ReadsImports files m.header.imports)
        (after_final Q files [] m.header.imports))
        (λ its before h. unit_final (record {
          read = m;
          reads = reads;
          language = l;
          states = states;
          imports = its;
          imported = h.0;
        }))

    read_final : FinalTrying Q (MakesRead files m)
    read_final =
        and_then_final Q (Untried (ReadsLanguage m.header.language files)) (MakesOver files m)
        (trying_final Q NoTries (ReadsLanguage m.header.language files)
        (reads_language_final Q m.header.language files))
        (λ l before h. over_final l h.0)

  sample_final : FinalTrying Q (MakesSample files)
  sample_final =
      and_then_final Q (Untried (ReadsModule sample_file sample_name files)) (MakesRead files)
      (trying_final Q NoTries (ReadsModule sample_file sample_name files)
      (reads_final Q sample_file sample_name files))
      (λ m before h. read_final m h.0)

pub sample_type_errors_are_final : UnitsFinal → SampleTypeErrorsAreFinal
sample_type_errors_are_final units number =
    and_then_final (Q units number) (MakesSample (sample_files number))
    (λ unit. Untried (PlansSample number unit)) (sample_final units number)
    (λ unit before made. trying_final (Q units number) NoTries (PlansSample number unit)
    (plans_final (Q units number) number unit))
