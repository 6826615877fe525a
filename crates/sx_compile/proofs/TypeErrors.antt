-- `compile NAME` stops with a type error only where the module has no type, or where a rule of an
-- extension is not sound.
use Rattle.std.proofs.Common.{◌≡◌, ℕ, List, [], ◌∷◌, ◌++◌, inl, inr, ◌⊎◌, sym}
use Rattle.std.specs.Prelude.{Ok}
use Rattle.std.specs.Str.Lossy.{utf8_valid_len}
use Rattle.sha2.specs.Sha256.{sha256}
use Rattle.sx_words.specs.declared.closure_defect.ClosureDefect.TheVariants as closure_defect
use Rattle.sx_words.specs.declared.refusal.Defect.TheVariants as defect
use Rattle.sx_rules.specs.Views.{NamedRule}
use Rattle.sx_audit.specs.Meaning.{Meaning}
use Rattle.sx_extcheck.specs.declared.budgets.Budgets.{Budgets}
use Rattle.sx_interface.specs.Headers.{HeaderParts}
use Rattle.sx_unit.specs.Written.{UnitData}
use Rattle.sx_outside.specs.Files.{Files}
use Rattle.sx_steps.specs.declared.stop.Stop.{Stop}
use Rattle.sx_steps.specs.Held.{Held}
use Rattle.sx_term.specs.Limits.{most_bytes}
use Rattle.sx_steps.specs.Refusal.{about}
use Rattle.sx_steps.specs.Steps.{NoTries, Untried}
use Rattle.sx_steps.specs.Stops.{not_utf8}
use Rattle.sx_steps.specs.Unit.{interface_file}
use Rattle.sx_steps.proofs.Ones.{ok_no_err}
use Rattle.sx_steps.proofs.TypeErrors.{no_type_error, Final, FinalTrying, then_final}
use Rattle.sx_steps.proofs.TypeErrors.{trying_final, and_then_final, held_final}
use Rattle.sx_walking.specs.Reached.{too_many_files}
use Rattle.sx_accepting.specs.ReadLanguage.{Stated, ReadsLanguage}
use Rattle.sx_accepting.proofs.TypeErrors.{reads_language_final}
use Rattle.sx_auditing.specs.Shows.{Shows, objection}
use Rattle.sx_headers.specs.HeaderStops.{bad_header, version_stop}
use Rattle.sx_headers.specs.ReadInterface.{HeldInterface, StatesParts, ReadsInterface}
use Rattle.sx_headers.specs.ReadModule.{Module, StatesModule, ReadsModule}
use Rattle.sx_importing.specs.Each.{GivesNext, GivesAfter}
use Rattle.sx_importing.specs.ReadImports.{ImportData, ReadsImport, ReadsImports}
use Rattle.sx_compiling.specs.Laws.{HasNoType, HasUnsoundRule}
use Rattle.sx_compiling.specs.Laws.{TypeErrorsOfUnitsAreFinal as UnitsFinal}
use Rattle.sx_compiling.specs.MakeUnit.{MakesUnit}
use Rattle.sx_headers.specs.ModuleFiles.{module_file}
use Rattle.sx_compile.specs.AuditedPlans.{audited_plan, AuditsUnit}
use Rattle.sx_compile.specs.CompileModule.{given_to_compile, CompilesGiven, CompilesOver, CompilesFew}
use Rattle.sx_compile.specs.CompileModule.{CompilesOthers, CompilesRead}
use Rattle.sx_compile.specs.Found.{IsModule, IsModuleFound, given_from}
use Rattle.sx_compile.specs.Imports.{ImportsOthers, ImportsFew}
use Rattle.sx_compile.specs.Laws.{CompileTypeErrorsAreFinal}
use Rattle.sx_compile.proofs.FoundModules.{language_of}

-- ---- steps

module _ (Q : Stop → Type 0) where
  states_final : (file name bytes : List ℕ) → Final Q (StatesModule file name bytes)
  states_final file name bytes stop (inl h) =
      no_type_error Q (not_utf8 file (utf8_valid_len bytes)) stop (λ h. h) h.1
  states_final file name bytes stop (inr h) =
      no_type_error Q (bad_header file h.1.0) stop (λ h. h) h.1.2

  reads_final : (file name : List ℕ) (files : Files) → Final Q (ReadsModule file name files)
  reads_final file name files =
      then_final Q (Held most_bytes file files) (StatesModule file name)
      (held_final Q most_bytes file files) (λ bytes held. states_final file name bytes)

  others_final : (file name : List ℕ) (header : HeaderParts) →
      Final Q (ImportsOthers file name header)
  others_final file name header stop h =
      no_type_error Q (about file (defect.Closure (closure_defect.Cycle h.1.told))) stop (λ e. e)
      h.1.is

  few_final : (file : List ℕ) (header : HeaderParts) → Final Q (ImportsFew file header)
  few_final file header stop h = no_type_error Q (too_many_files file) stop (λ e. e) h.1

  parts_final : (file name bytes : List ℕ) → Final Q (StatesParts file name bytes)
  parts_final file name bytes stop (inl h) =
      no_type_error Q (not_utf8 file (utf8_valid_len bytes)) stop (λ h. h) h.1
  parts_final file name bytes stop (inr (utf8, inl h)) =
      no_type_error Q (version_stop file h.0) stop (λ h. h) h.2
  parts_final file name bytes stop (inr (utf8, inr h)) =
      no_type_error Q (bad_header file h.1.0) stop (λ h. h) h.1.2

  import_final : (files : Files) (name : List ℕ) → Final Q (ReadsImport files name)
  import_final files name =
      then_final Q (ReadsInterface (interface_file name) name files)
      (λ (i : HeldInterface) result.
      result ≡ Ok (record { parts = i.parts; digest = sha256 i.bytes }))
      (then_final Q (Held most_bytes (interface_file name) files)
      (StatesParts (interface_file name) name)
      (held_final Q most_bytes (interface_file name) files)
      (λ bytes held. parts_final (interface_file name) name bytes))
      (λ i read stop h. absurd (ok_no_err _ stop (sym h)))

  after_final : (files : Files) (given : List ImportData) (names : List (List ℕ)) →
      Final Q (GivesAfter (ReadsImport files) given names)
  after_final files given [] = λ stop h. absurd (ok_no_err given stop (sym h))
  after_final files given (name ∷ names) =
      then_final Q (GivesNext (ReadsImport files) given name)
      (λ next. GivesAfter (ReadsImport files) next names)
      (then_final Q (ReadsImport files name) (λ i result. result ≡ Ok (given ++ i ∷ []))
      (import_final files name)
      (λ i read stop h. absurd (ok_no_err (given ++ i ∷ []) stop (sym h))))
      (λ next read. after_final files next names)

  audits_final : (name : List ℕ) (rules : List NamedRule) (auditors : List Meaning)
      (unit : UnitData) → Final Q (AuditsUnit name rules auditors unit)
  audits_final name rules auditors unit =
      then_final Q (Shows (module_file name) rules auditors unit.list)
      (λ kept result. result ≡ Ok (audited_plan name unit kept))
      (λ stop h. no_type_error Q (objection (module_file name) h.shows.1.one _ h.shows.1.node) stop
      (λ e. e) h.shows.2)
      (λ kept shown stop h. absurd (ok_no_err (audited_plan name unit kept) stop (sym h)))

-- ---- the command

module _ (units : UnitsFinal) (name : List ℕ) (budgets : Budgets) (auditors : List Meaning)
    (files : Files) where
  abbrev Q : Stop → Type 0
  Q stop = (f : IsModuleFound name files) ×
      (HasNoType budgets files (given_from f) stop
      ⊎ HasUnsoundRule budgets files (given_from f) stop)

  given_final : (f : IsModuleFound name files) →
      FinalTrying Q (CompilesGiven name budgets auditors files (given_from f))
  given_final f =
      and_then_final Q (MakesUnit budgets files (given_from f))
      (λ unit. Untried (AuditsUnit name f.language.language.rules auditors unit))
      (λ stop tries h error. (
        f,
        units budgets files (given_from f) stop tries (language_of name files f) h error,
      ))
      (λ unit before made. trying_final Q NoTries
      (AuditsUnit name f.language.language.rules auditors unit)
      (audits_final Q name f.language.language.rules auditors unit))

  module _ (m : IsModule name files) where
    over_final : (l : Stated) → ReadsLanguage m.read.header.language files (Ok l) →
        FinalTrying Q (CompilesOver name budgets auditors files m.read l)
    over_final l states =
        and_then_final Q (Untried (ReadsImports files m.read.header.imports))
        (λ imports. CompilesGiven name budgets auditors files (given_to_compile name m.read l imports))
        (trying_final Q NoTries (ReadsImports files m.read.header.imports)
        (after_final Q files [] m.read.header.imports))
        (λ imports before h. given_final (record {
          from = m;
          language = l;
          states = states;
          imports = imports;
          imported = h.0;
        }))

    language_final : FinalTrying Q (CompilesFew name budgets auditors files m.read)
    language_final =
        and_then_final Q (Untried (ReadsLanguage m.read.header.language files))
        (CompilesOver name budgets auditors files m.read)
        (trying_final Q NoTries (ReadsLanguage m.read.header.language files)
        (reads_language_final Q m.read.header.language files))
        (λ l before h. over_final l h.0)

  module _ (m : Module) (reads : ReadsModule (module_file name) name files (Ok m)) where
    many_final : ImportsOthers (module_file name) name m.header (Ok tt) →
        FinalTrying Q (CompilesOthers name budgets auditors files m)
    many_final others =
        and_then_final Q (Untried (ImportsFew (module_file name) m.header))
        (λ done. CompilesFew name budgets auditors files m)
        (trying_final Q NoTries (ImportsFew (module_file name) m.header)
        (few_final Q (module_file name) m.header))
        (λ done before h. language_final (record {
          read = m;
          reads = reads;
          others = others;
          few = h.0;
        }))

    read_final : FinalTrying Q (CompilesRead name budgets auditors files m)
    read_final =
        and_then_final Q (Untried (ImportsOthers (module_file name) name m.header))
        (λ done. CompilesOthers name budgets auditors files m)
        (trying_final Q NoTries (ImportsOthers (module_file name) name m.header)
        (others_final Q (module_file name) name m.header))
        (λ done before h. many_final h.0)

pub compile_type_errors_are_final : UnitsFinal → CompileTypeErrorsAreFinal
compile_type_errors_are_final units name budgets auditors files =
    and_then_final (Q units name budgets auditors files)
    (Untried (ReadsModule (module_file name) name files)) (CompilesRead name budgets auditors files)
    (trying_final (Q units name budgets auditors files) NoTries
    (ReadsModule (module_file name) name files)
    (reads_final (Q units name budgets auditors files) (module_file name) name files))
    (λ m before h. read_final units name budgets auditors files m h.0)
