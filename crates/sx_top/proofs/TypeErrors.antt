-- A run stops with a type error only where the command's goal has no derivation.
use Rattle.std.proofs.Common.{◌≡◌, ℕ, true, false, List, length, refl, sym, subst}
use Rattle.std.specs.Prelude.{Ok, Err, None}
use Rattle.sx_outside.specs.Files.{Files}
use Rattle.sx_term.specs.Tree.{Tree}
use Rattle.sx_rules.specs.declared.entry.Entry.{Entry as EntryOf}
use Rattle.sx_rules.specs.First.{IsUnderivable}
use Rattle.sx_rules.specs.Modes.{AllModed}
use Rattle.sx_rules.specs.Views.{modes_of}
use Rattle.sx_core.specs.CoreRead.{IsCoreAnswer}
use Rattle.sx_core.specs.Problem.{Problem}
use Rattle.sx_core.specs.declared.error.CoreFileError.{CoreFileError}
use Rattle.sx_core.specs.declared.error.CoreFileError.TheVariants as core_error
use Rattle.sx_derive.specs.Walk.{Cause, depth_spent as passes_depth, too_deep as passes_terms}
use Rattle.sx_derive.specs.Walk.{too_big as passes_size}
use Rattle.sx_derive.specs.Search.{Ending, found, stopped, spent, exhausted, walk}
use Rattle.sx_derive.proofs.Walked.{exhausted_means_none}
use Rattle.sx_replay.specs.declared.replay_error.ReplayError.{ReplayError}
use Rattle.sx_replay.specs.declared.replay_error.ReplayError.TheVariants as replay_error
use Rattle.sx_words.specs.Commands.{Meant, builds, compiles, checks, verifies, samples}
use Rattle.sx_steps.specs.declared.stop.Stop.{Stop}
use Rattle.sx_steps.specs.Held.{Held, most_list_bytes}
use Rattle.sx_term.specs.Limits.{most_bytes}
use Rattle.sx_steps.specs.Lower.{Lower}
use Rattle.sx_steps.specs.Refusal.{bad_word}
use Rattle.sx_steps.specs.Steps.{NoTries, Trying, Untried, AndThen}
use Rattle.sx_steps.specs.Stops.{tries_spent}
use Rattle.sx_steps.specs.TypeErrors.{IsTypeError}
use Rattle.sx_steps.specs.Unit.{base_file, list_file, interface_file}
use Rattle.sx_steps.proofs.Ones.{err_same, ok_no_err}
use Rattle.sx_steps.proofs.StepsOn.{went}
use Rattle.sx_steps.proofs.TypeErrors.{OnTypeError, on_stop, no_type_error, no_rules, Final, FinalTrying, then_final, trying_final, and_then_final, held_final}
use Rattle.sx_build.specs.Laws.{BuildTypeErrorsAreFinal as BuildsFinal}
use Rattle.sx_check.proofs.TypeErrors.{check_errors_are_final}
use Rattle.sx_compile.specs.Laws.{CompileTypeErrorsAreFinal as CompilesFinal}
use Rattle.sx_sampling.specs.Laws.{SampleTypeErrorsAreFinal as SamplesFinal}
use Rattle.sx_verify.specs.Lists.{bad_entry, replay_stop, StatesEntries, ReadsEntries}
use Rattle.sx_verify.specs.Verified.{verified_plan}
use Rattle.sx_verify.proofs.TypeErrors.{verifies_without_type_errors}
use Rattle.sx_top.specs.BuildCore.{core_plan, BuildsGoal, BuildsWhole}
use Rattle.sx_words.specs.Commands.{SpellsCommand}
use Rattle.sx_top.specs.Commands.{Commands}
use Rattle.sx_top.specs.CoreStops.{variable_name, differs}
use Rattle.sx_top.specs.CoreTexts.{subject_text, term_lines}
use Rattle.sx_top.specs.FindFirst.{problem_rules}
use Rattle.sx_rules.specs.Rules.{no_hypotheses}
use Rattle.sx_top.specs.Laws.{HasNoDerivation, IsUntypedCommand, TypeErrorsAreFinal}
use Rattle.sx_top.specs.LowerStops.{core_stop}
use Rattle.sx_audit.specs.Meaning.{Meaning}
use Rattle.sx_top.specs.Calls.{Call}
use Rattle.sx_top.specs.Outcome.{budgets_of, audits_of, NamesFor, Runs, RunsFor, RunOutcome}
use Rattle.sx_top.proofs.Misnamed.{misnamed}
use Rattle.sx_top.specs.ReadCore.{core_file, problem_rule_names, ReadsCore}
use Rattle.sx_top.specs.Search.{core_goal_events, passed, SearchComesTo, Searches, HasCoreWalked}
use Rattle.sx_top.specs.VerifyCore.{ReplaysProblem, VerifiesOutputs, VerifiesCoreEntries}
use Rattle.sx_top.specs.VerifyCore.{VerifiesCoreList, VerifiesCoreSubject, VerifiesWhole}
use Rattle.sx_top.specs.Written.{Equals, Compares}
use Rattle.sx_top.proofs.Propers.{proper}

module _ (Q : Stop → Type 0) where
  -- ---- stops

  no_core : (file : List ℕ) (e : CoreFileError) → OnTypeError Q (core_stop file e)
  no_core file core_error.Memory = tt
  no_core file (core_error.NotUtf8 before) = λ h. absurd h
  no_core file (core_error.Notation line what) = λ h. absurd h
  no_core file (core_error.TooDeep line depth) = λ h. absurd h
  no_core file (core_error.Rules e) = no_rules Q file variable_name e

  no_replay : (file : List ℕ) (e : ReplayError) → OnTypeError Q (replay_stop file e)
  no_replay file replay_error.Memory = tt
  no_replay file (replay_error.WrongAt entry) = λ h. absurd h
  no_replay file replay_error.EndsEarly = λ h. absurd h
  no_replay file (replay_error.LongList entry) = λ h. absurd h
  no_replay file (replay_error.TooDeep depth) = λ h. absurd h
  no_replay file (replay_error.TooBig size) = λ h. absurd h
  no_replay file (replay_error.DeepList entry) = λ h. absurd h

  -- ---- files

  reads_final : (file : List ℕ) (files : Files) → Final Q (ReadsCore file files)
  reads_final file files =
      then_final Q (Held most_bytes file files) (λ bytes. Lower (core_stop file) (IsCoreAnswer bytes)) (held_final Q most_bytes file files)
      (λ bytes held stop h. on_stop Q (core_stop file h.0) stop (no_core file h.0) h.2)

  equals_final : (file text bytes : List ℕ) → Final Q (Equals file text bytes)
  equals_final file text bytes stop h = no_type_error Q (differs file) stop (λ e. e) h.1

  compares_final : (file text : List ℕ) (files : Files) → Final Q (Compares file text files)
  compares_final file text files =
      then_final Q (Held most_bytes file files) (Equals file text) (held_final Q most_bytes file files) (λ bytes held. equals_final file text bytes)

  entries_final : (file : List ℕ) (names : List (List ℕ)) (bytes : List ℕ) → Final Q (StatesEntries file names bytes)
  entries_final file names bytes stop h = no_type_error Q (bad_entry file h.0) stop (λ e. e) h.2

  reads_entries_final : (file : List ℕ) (names : List (List ℕ)) (files : Files) → Final Q (ReadsEntries file names files)
  reads_entries_final file names files =
      then_final Q (Held most_list_bytes file files) (StatesEntries file names) (held_final Q most_list_bytes file files) (λ bytes held. entries_final file names bytes)

  -- ---- `verify --core`

  replays_final : (file : List ℕ) (p : Problem) (list : List EntryOf) → Final Q (ReplaysProblem file p list)
  replays_final file p list stop h = on_stop Q (replay_stop file h.0) stop (no_replay file h.0) h.2

  module _ (name : List ℕ) (files : Files) where
    outputs_final : (nodes : ℕ) (outputs : List Tree) → Final Q (VerifiesOutputs name files nodes outputs)
    outputs_final nodes outputs =
        then_final Q (Compares (interface_file name) (term_lines outputs) files) (λ done result. result ≡ Ok (verified_plan name nodes))
        (compares_final (interface_file name) (term_lines outputs) files) (λ done held stop h. absurd (ok_no_err (verified_plan name nodes) stop (sym h)))

    replay_final : (p : Problem) (list : List EntryOf) → Final Q (VerifiesCoreEntries name files p list)
    replay_final p list =
        then_final Q (ReplaysProblem (list_file name) p list) (VerifiesOutputs name files (length list)) (replays_final (list_file name) p list)
        (λ outputs replayed. outputs_final (length list) outputs)

    list_final : (p : Problem) → Final Q (VerifiesCoreList name files p)
    list_final p =
        then_final Q (ReadsEntries (list_file name) (problem_rule_names p) files) (VerifiesCoreEntries name files p) (reads_entries_final (list_file name) (problem_rule_names p) files)
        (λ list read. replay_final p list)

    subject_final : (p : Problem) → Final Q (VerifiesCoreSubject name files p)
    subject_final p =
        then_final Q (Compares (base_file name) (subject_text p.forms p.goal) files) (λ done. VerifiesCoreList name files p)
        (compares_final (base_file name) (subject_text p.forms p.goal) files) (λ done held. list_final p)

    verifies_final : Final Q (VerifiesWhole name files)
    verifies_final = then_final Q (ReadsCore (core_file name) files) (VerifiesCoreSubject name files) (reads_final (core_file name) files) (λ p read. subject_final p)

-- ---- `build --core`

no_limit : (file : List ℕ) (cause : Cause) → IsTypeError (passed file cause) → ⊥
no_limit file passes_depth error = error
no_limit file (passes_terms depth) error = error
no_limit file (passes_size size) error = error

-- a walk comes to a type error only at the end of its events
comes_final : (file : List ℕ) (p : Problem) (budget : ℕ) (ending : Ending) (stop : Stop) → SearchComesTo file p budget ending (Err stop) → IsTypeError stop → ending ≡ exhausted
comes_final file p budget (found answer) stop comes error = absurd (ok_no_err answer stop (sym comes))
comes_final file p budget (stopped cause) stop comes error = absurd (no_limit file cause (subst IsTypeError (err_same stop (passed file cause) comes) error))
comes_final file p budget spent stop comes error = absurd (subst IsTypeError (err_same stop (tries_spent file budget) comes) error)
comes_final file p budget exhausted stop comes error = refl

searches_final : (file : List ℕ) (budget : ℕ) (p : Problem) → AllModed (modes_of p.forms) (problem_rules p) → Final (λ (stop : Stop). IsUnderivable (modes_of p.forms) (problem_rules p) no_hypotheses p.goal None) (Searches file budget p)
searches_final file budget p moded stop comes error =
    exhausted_means_none (modes_of p.forms) (problem_rules p) no_hypotheses moded p.goal None budget 1 (comes_final file p budget (walk None budget (core_goal_events p)) stop comes error)

read_moded : (file : List ℕ) (files : Files) (p : Problem) → ReadsCore file files (Ok p) → AllModed (modes_of p.forms) (problem_rules p)
read_moded file files p read = let at = went _ _ _ read in (proper at.given p at.goes).moded

module _ (name : List ℕ) (budget : ℕ) (files : Files) where
  abbrev Q : Stop → Type 0
  Q stop = HasNoDerivation name files

  goal_final : (p : Problem) → ReadsCore (core_file name) files (Ok p) → FinalTrying Q (BuildsGoal name (core_file name) budget p)
  goal_final p read =
      and_then_final Q (Trying (HasCoreWalked budget p) (Searches (core_file name) budget p)) (λ answer. Untried (λ result. result ≡ Ok (core_plan name p answer)))
      (trying_final Q (HasCoreWalked budget p) (Searches (core_file name) budget p)
      (λ stop h error. record { problem = p; reads = read; none = searches_final (core_file name) budget p (read_moded (core_file name) files p read) stop h error }))
      (λ answer before first. trying_final Q NoTries (λ result. result ≡ Ok (core_plan name p answer)) (λ stop h. absurd (ok_no_err (core_plan name p answer) stop (sym h))))

  builds_final : FinalTrying Q (BuildsWhole name budget files)
  builds_final =
      and_then_final Q (Untried (ReadsCore (core_file name) files)) (BuildsGoal name (core_file name) budget)
      (trying_final Q NoTries (ReadsCore (core_file name) files) (reads_final Q (core_file name) files))
      (λ p before read. goal_final p read.0)

-- ---- commands

runs_final : BuildsFinal → CompilesFinal → SamplesFinal → (command : Meant) (named : List Meaning)
    (files : Files) → FinalTrying (IsUntypedCommand command named files) (Runs command named files)
runs_final builds_end compiles_final samples_final (builds true name tries nodes audits) named files stop made h error =
    builds_final name tries files stop made h error
runs_final builds_end compiles_final samples_final (builds false name tries nodes audits) named files stop made h error =
    builds_end name (budgets_of tries nodes) named files stop made h error
runs_final builds_end compiles_final samples_final (compiles name tries nodes audits) named files stop made h error =
    compiles_final name (budgets_of tries nodes) named files stop made h error
runs_final builds_end compiles_final samples_final (checks name tries nodes) named files stop made h error =
    check_errors_are_final name (budgets_of tries nodes) files stop made h error
runs_final builds_end compiles_final samples_final (verifies true name) named files stop made h error =
    verifies_final (λ (s : Stop). ⊥) name files stop h.0 error
runs_final builds_end compiles_final samples_final (verifies false name) named files stop made h error =
    verifies_without_type_errors name files stop h.0 error
runs_final builds_end compiles_final samples_final (samples number) named files stop made h error =
    samples_final number stop made h error

-- naming auditors is no type error
names_final : (Q : Stop → Type 0) (handed : List Meaning) (command : Meant) →
    Final Q (NamesFor handed command)
names_final Q handed command stop h =
    let place = misnamed handed (audits_of command) stop h in
    no_type_error Q (bad_word place.0) stop (λ e. e) place.1

module _ (builds_end : BuildsFinal) (compiles_final : CompilesFinal)
    (samples_final : SamplesFinal) (c : Call) (files : Files) where
  -- the words spell a command that is so
  abbrev IsSpelledSo : Stop → Type 0
  IsSpelledSo stop = (command : Meant) × (named : List Meaning) × SpellsCommand c.words command ×
      NamesFor c.auditors command (Ok named) × IsUntypedCommand command named files stop

  runs_for_final : (command : Meant) → SpellsCommand c.words command →
      FinalTrying IsSpelledSo (RunsFor c.auditors files command)
  runs_for_final command spelled =
      and_then_final IsSpelledSo (Untried (NamesFor c.auditors command))
      (λ named. Runs command named files)
      (trying_final IsSpelledSo NoTries (NamesFor c.auditors command)
      (names_final IsSpelledSo c.auditors command))
      (λ named before are stop made h error. (
        command,
        named,
        spelled,
        are.0,
        runs_final builds_end compiles_final samples_final command named files stop made h error,
      ))

  outcome_final : FinalTrying IsSpelledSo (AndThen (Untried (Commands c.words))
      (RunsFor c.auditors files))
  outcome_final =
      and_then_final IsSpelledSo (Untried (Commands c.words)) (RunsFor c.auditors files)
      (trying_final IsSpelledSo NoTries (Commands c.words)
      (λ stop h. no_type_error IsSpelledSo (bad_word h.0) stop (λ e. e) h.2))
      (λ command before spelled. runs_for_final command spelled.0)

pub type_errors_are_final : BuildsFinal → CompilesFinal → SamplesFinal → TypeErrorsAreFinal
unfolding RunOutcome
type_errors_are_final builds_end compiles_final samples_final c files =
    outcome_final builds_end compiles_final samples_final c files
