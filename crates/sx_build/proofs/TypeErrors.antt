-- `build NAME` stops with a type error only where one of the modules has no type, or where a rule
-- of one of its extensions is not sound.
use Rattle.std.proofs.Common.{◌≡◌, ℕ, List, [], ◌∷◌, ◌++◌, inl, inr, ◌⊎◌, sym}
use Rattle.std.specs.Prelude.{Ok}
use Rattle.std.specs.Str.Lossy.{utf8_valid_len}
use Rattle.sha2.specs.Sha256.{sha256}
use Rattle.sx_audit.specs.Meaning.{Meaning}
use Rattle.sx_extcheck.specs.declared.budgets.Budgets.{Budgets}
use Rattle.sx_unit.specs.Written.{UnitData}
use Rattle.sx_outside.specs.Files.{Files}
use Rattle.sx_steps.specs.declared.stop.Stop.{Stop}
use Rattle.sx_steps.specs.Held.{Held}
use Rattle.sx_term.specs.Limits.{most_bytes}
use Rattle.sx_steps.specs.Steps.{NoTries, Untried}
use Rattle.sx_steps.specs.Stops.{not_utf8}
use Rattle.sx_steps.specs.Unit.{interface_file}
use Rattle.sx_steps.proofs.Ones.{ok_no_err}
use Rattle.sx_steps.proofs.TypeErrors.{no_type_error, Final, FinalTrying, then_final}
use Rattle.sx_steps.proofs.TypeErrors.{trying_final, and_then_final, held_final}
use Rattle.sx_walking.proofs.TypeErrors.{reaches_final}
use Rattle.sx_accepting.specs.ReadLanguage.{Stated, ReadsLanguage}
use Rattle.sx_accepting.proofs.TypeErrors.{reads_language_final}
use Rattle.sx_auditing.specs.Shows.{Shows, objection}
use Rattle.sx_headers.specs.HeaderStops.{bad_header, version_stop}
use Rattle.sx_headers.specs.ReadInterface.{HeldInterface, StatesParts, ReadsInterface}
use Rattle.sx_headers.specs.ReadModule.{Module, StatesModule}
use Rattle.sx_importing.specs.Each.{GivesNext, GivesAfter}
use Rattle.sx_importing.specs.ReadImports.{ImportData, ReadsImport, ReadsImports}
use Rattle.sx_compiling.specs.Laws.{HasNoType, HasUnsoundRule}
use Rattle.sx_compiling.specs.Laws.{TypeErrorsOfUnitsAreFinal as UnitsFinal}
use Rattle.sx_compiling.specs.MakeUnit.{MakesUnit}
use Rattle.sx_compiling.specs.Reached.{HasNamedLanguage}
use Rattle.sx_closure.specs.Closures.{HaveLanguage}
use Rattle.sx_headers.specs.ModuleFiles.{module_file}
use Rattle.sx_closure.specs.ReadImport.{language_differs, ReadsNamed, ReadsImportedModule as ReadsOther}
use Rattle.sx_closure.specs.ReadImport.{HasSameLanguage as HasSame}
use Rattle.sx_closure.specs.ReadModules.{imports_of, ReachesModules, ReadsModules}
use Rattle.sx_build.specs.BuildModules.{BuildProgress, none_made, with_unit, ShowsUnit, MakesWith}
use Rattle.sx_build.specs.BuildModules.{MakesNext, MakesAfter, whole_plan, language_in, BuildsOver}
use Rattle.sx_build.specs.BuildModules.{BuildsRead}
use Rattle.sx_build.specs.Laws.{IsClosureFound, IsTurnOf, given_at, BuildTypeErrorsAreFinal}
use Rattle.sx_build.specs.MadeModules.{with_made}
use Rattle.sx_build.proofs.Languages.{HasBytes, have_language, has_bytes, given_language}
use Rattle.sx_build.proofs.Turns.{IsAt, at_begin, at_next, turn_of}

-- ---- steps

module _ (Q : Stop → Type 0) where
  states_final : (file name bytes : List ℕ) → Final Q (StatesModule file name bytes)
  states_final file name bytes stop (inl h) =
      no_type_error Q (not_utf8 file (utf8_valid_len bytes)) stop (λ h. h) h.1
  states_final file name bytes stop (inr h) =
      no_type_error Q (bad_header file h.1.0) stop (λ h. h) h.1.2

  named_final : (files : Files) (name : List ℕ) → Final Q (ReadsNamed files name)
  named_final files name =
      then_final Q (Held most_bytes (module_file name) files)
      (StatesModule (module_file name) name) (held_final Q most_bytes (module_file name) files)
      (λ bytes held. states_final (module_file name) name bytes)

  other_final : (language : List ℕ) (files : Files) (name : List ℕ) →
      Final Q (ReadsOther language files name)
  other_final language files name =
      then_final Q (ReadsNamed files name) (HasSame language name) (named_final files name)
      (λ given reads stop h.
      no_type_error Q (language_differs (module_file name) given.header.language) stop (λ e. e) h.1)

  modules_final : (name : List ℕ) (files : Files) → Final Q (ReadsModules name files)
  modules_final name files =
      then_final Q (ReadsNamed files name) (λ m. ReachesModules m.header.language name files)
      (named_final files name)
      (λ m reads. reaches_final Q imports_of (ReadsOther m.header.language files)
      (other_final m.header.language files) (module_file name) (name ∷ []))

  parts_final : (file name bytes : List ℕ) → Final Q (StatesParts file name bytes)
  parts_final file name bytes stop (inl h) =
      no_type_error Q (not_utf8 file (utf8_valid_len bytes)) stop (λ h. h) h.1
  parts_final file name bytes stop (inr (utf8, inl h)) =
      no_type_error Q (version_stop file h.0) stop (λ h. h) h.2
  parts_final file name bytes stop (inr (utf8, inr h)) =
      no_type_error Q (bad_header file h.1.0) stop (λ h. h) h.1.2

  import_final : (files : Files) (name : List ℕ) → Final Q (ReadsImport files name)
  import_final files name =
      then_final Q (ReadsInterface (interface_file name) name files)
      (λ (i : HeldInterface) result.
      result ≡ Ok (record { parts = i.parts; digest = sha256 i.bytes }))
      (then_final Q (Held most_bytes (interface_file name) files)
      (StatesParts (interface_file name) name)
      (held_final Q most_bytes (interface_file name) files)
      (λ bytes held. parts_final (interface_file name) name bytes))
      (λ i read stop h. absurd (ok_no_err _ stop (sym h)))

  imports_final : (files : Files) (given : List ImportData) (names : List (List ℕ)) →
      Final Q (GivesAfter (ReadsImport files) given names)
  imports_final files given [] = λ stop h. absurd (ok_no_err given stop (sym h))
  imports_final files given (name ∷ names) =
      then_final Q (GivesNext (ReadsImport files) given name)
      (λ next. GivesAfter (ReadsImport files) next names)
      (then_final Q (ReadsImport files name) (λ i result. result ≡ Ok (given ++ i ∷ []))
      (import_final files name)
      (λ i read stop h. absurd (ok_no_err (given ++ i ∷ []) stop (sym h))))
      (λ next read. imports_final files next names)

  shows_final : (l : Stated) (before : BuildProgress) (m : Module) (unit : UnitData) →
      Final Q (ShowsUnit l before m unit)
  shows_final l before m unit =
      then_final Q
      (Shows (module_file m.header.name) l.language.rules before.auditors unit.list)
      (λ auditors result. result ≡ Ok (with_unit before m unit auditors))
      (λ stop h. no_type_error Q
      (objection (module_file m.header.name) h.shows.1.one _ h.shows.1.node) stop (λ e. e)
      h.shows.2)
      (λ auditors shown stop h. absurd (ok_no_err (with_unit before m unit auditors) stop (sym h)))

-- ---- the command

module _ (units : UnitsFinal) (name : List ℕ) (budgets : Budgets) (auditors : List Meaning)
    (files : Files) where
  abbrev Q : Stop → Type 0
  Q stop = (t : IsTurnOf name budgets auditors files) ×
      (HasNoType budgets files (given_at t) stop ⊎ HasUnsoundRule budgets files (given_at t) stop)

  -- one module
  with_final : (t : IsTurnOf name budgets auditors files) → HasNamedLanguage (given_at t) →
      FinalTrying Q (MakesWith budgets files t.found.language t.progress t.own t.imports)
  with_final t language =
      and_then_final Q (MakesUnit budgets files (given_at t))
      (λ unit. Untried (ShowsUnit t.found.language t.progress t.own unit))
      (λ stop tries h error. (t, units budgets files (given_at t) stop tries language h error))
      (λ unit before made. trying_final Q NoTries
      (ShowsUnit t.found.language t.progress t.own unit)
      (shows_final Q t.found.language t.progress t.own unit))

  -- all modules
  module _ (f : IsClosureFound name files) where
    bytes : HasBytes (language_in f.modules) f.language
    bytes = has_bytes (language_in f.modules) files f.language f.states

    next_final : (m : Module) (ms : List Module) (progress : BuildProgress) →
        m.header.language ≡ language_in f.modules →
        IsAt name budgets auditors files f (m ∷ ms) progress →
        FinalTrying Q (MakesNext budgets files f.language progress m)
    next_final m ms progress same at =
        and_then_final Q (Untried (ReadsImports (with_made progress.made files) m.header.imports))
        (MakesWith budgets files f.language progress m)
        (trying_final Q NoTries (ReadsImports (with_made progress.made files) m.header.imports)
        (imports_final Q (with_made progress.made files) [] m.header.imports))
        (λ imports before h. with_final
        (turn_of name budgets auditors files f m ms progress at imports h.0)
        (given_language (language_in f.modules) f.language bytes m same imports))

    after_final : (ms : List Module) (progress : BuildProgress) →
        HaveLanguage (language_in f.modules) ms →
        IsAt name budgets auditors files f ms progress →
        FinalTrying Q (MakesAfter budgets files f.language progress ms)
    after_final [] progress same at =
        trying_final Q NoTries (λ result. result ≡ Ok progress)
        (λ stop h. absurd (ok_no_err progress stop (sym h)))
    after_final (m ∷ ms) progress same at =
        and_then_final Q (MakesNext budgets files f.language progress m)
        (λ next. MakesAfter budgets files f.language next ms)
        (next_final m ms progress same.0 at)
        (λ next one made. after_final ms next same.1
        (at_next name budgets auditors files f m ms progress next one at made))

    over_final : FinalTrying Q (BuildsOver budgets auditors files f.modules f.language)
    over_final =
        and_then_final Q (MakesAfter budgets files f.language (none_made auditors) f.modules)
        (λ end. Untried (λ result. result ≡ Ok (whole_plan end)))
        (after_final f.modules (none_made auditors) (have_language name files f.modules f.reads)
        (at_begin name budgets auditors files f))
        (λ end tries made. trying_final Q NoTries (λ result. result ≡ Ok (whole_plan end))
        (λ stop h. absurd (ok_no_err (whole_plan end) stop (sym h))))

  -- the files
  read_final : (ms : List Module) → ReadsModules name files (Ok ms) →
      FinalTrying Q (BuildsRead budgets auditors files ms)
  read_final ms reads =
      and_then_final Q (Untried (ReadsLanguage (language_in ms) files))
      (BuildsOver budgets auditors files ms)
      (trying_final Q NoTries (ReadsLanguage (language_in ms) files)
      (reads_language_final Q (language_in ms) files))
      (λ l before h. over_final (record {
        modules = ms;
        reads = reads;
        language = l;
        states = h.0;
      }))

pub build_type_errors_are_final : UnitsFinal → BuildTypeErrorsAreFinal
build_type_errors_are_final units name budgets auditors files =
    and_then_final (Q units name budgets auditors files) (Untried (ReadsModules name files))
    (BuildsRead budgets auditors files)
    (trying_final (Q units name budgets auditors files) NoTries (ReadsModules name files)
    (modules_final (Q units name budgets auditors files) name files))
    (λ ms before h. read_final units name budgets auditors files ms h.0)
