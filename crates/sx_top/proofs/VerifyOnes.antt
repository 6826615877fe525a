-- Runs have one outcome, read faults aside.
use Rattle.std.proofs.Common.{◌≡◌, ◌≢◌, ℕ, true, false, List, length, refl, sym, ap, ◌∙◌, inl, inr}
use Rattle.std.specs.Prelude.{Result, Ok, Err}
use Rattle.sx_outside.specs.Files.{Files}
use Rattle.sx_term.specs.Tree.{Tree}
use Rattle.sx_rules.specs.declared.entry.Entry.{Entry as EntryOf}
use Rattle.sx_rules.specs.Views.{modes_of}
use Rattle.sx_rules.specs.Modes.{AllModed}
use Rattle.sx_rules.specs.EntryView.{entries}
use Rattle.sx_core.specs.Problem.{Problem}
use Rattle.sx_core.specs.CoreRead.{IsCoreAnswer}
use Rattle.sx_core.specs.declared.error.CoreFileError.{CoreFileError}
use Rattle.sx_core.specs.declared.error.CoreFileError.TheVariants as core_error
use Rattle.sx_replay.specs.Replay.{IsReplayAnswer}
use Rattle.sx_replay.specs.declared.replay_error.ReplayError.TheVariants as replay_error
use Rattle.sx_replay.proofs.OneAnswer.{one_answer}
use Rattle.sx_words.specs.Commands.{Meant, builds, compiles, checks, verifies, samples}
use Rattle.sx_top.specs.CoreTexts.{subject_text, term_lines}
use Rattle.sx_top.specs.FindFirst.{problem_rules}
use Rattle.sx_rules.specs.Rules.{no_hypotheses}
use Rattle.sx_steps.specs.Held.{Held}
use Rattle.sx_term.specs.Limits.{most_bytes}
use Rattle.sx_steps.specs.Lower.{Lower}
use Rattle.sx_top.specs.LowerStops.{core_stop}
use Rattle.sx_top.specs.Proper.{IsProper}
use Rattle.sx_top.specs.ReadCore.{core_file, problem_rule_names, ReadsCore}
use Rattle.sx_steps.specs.Unit.{base_file, list_file, interface_file}
use Rattle.sx_top.specs.Search.{Searches, HasCoreWalked}
use Rattle.sx_top.specs.Written.{Compares}
use Rattle.sx_top.specs.BuildCore.{core_plan, BuildsGoal, BuildsWhole}
use Rattle.sx_top.specs.VerifyCore.{ReplaysProblem, VerifiesOutputs, VerifiesCoreEntries}
use Rattle.sx_top.specs.VerifyCore.{VerifiesCoreList, VerifiesCoreSubject, VerifiesWhole}
use Rattle.sx_steps.specs.Refusal.{bad_word}
use Rattle.sx_words.proofs.CommandLaws.{one_command}
use Rattle.sx_words.proofs.OneAnswer.{one_misfit, no_misfit}
use Rattle.sx_words.specs.Commands.{SpellsCommand}
use Rattle.sx_top.specs.Commands.{Commands}
use Rattle.sx_audit.specs.Meaning.{Meaning}
use Rattle.sx_auditing.proofs.Names.{names-once}
use Rattle.sx_top.specs.Calls.{Call}
use Rattle.sx_top.specs.Outcome.{budgets_of, audits_of, NamesFor, Runs, RunsFor, RunOutcome}
use Rattle.sx_top.specs.Laws.{IsOfCore, SameFor, SameStops, OneCoreOutcome, OneOutcome}
use Rattle.sx_steps.proofs.StepsOn.{went}
use Rattle.sx_build.specs.Laws.{BuildsAgree}
use Rattle.sx_check.proofs.Agreeing.{checks_one}
use Rattle.sx_compile.specs.Laws.{CompilesAgree}
use Rattle.sx_sampling.specs.Laws.{SamplesAgree}
use Rattle.sx_verify.specs.Laws.{VerifiesAgree}
use Rattle.sx_outline.specs.Laws.{OneHeaderAnswer}
use Rattle.sx_steps.specs.Steps.{NoTries, Trying, Untried}
use Rattle.sx_steps.proofs.Ones.{IsOne, IsOneBy, then_one, and_then_by, trying_one, trying_same, no_tries_one, answers_same, answers_so, held_one, lower_but}
use Rattle.sx_top.proofs.WholeOnes.{compares_one, searches_one}
use Rattle.sx_top.proofs.Propers.{proper}
use Rattle.sx_verify.specs.Lists.{replay_stop, ReadsEntries}
use Rattle.sx_verify.specs.Verified.{verified_plan}
use Rattle.sx_verify.proofs.OneSteps.{list_one}

-- ---- the replay

replays_one : (file : List ℕ) (p : Problem) (list : List EntryOf) → AllModed (modes_of p.forms) (problem_rules p) → IsOne (ReplaysProblem file p list)
replays_one file p list moded =
    lower_but (replay_stop file) (IsReplayAnswer (modes_of p.forms) (problem_rules p) no_hypotheses p.goal (entries list)) replay_error.Memory refl
    (one_answer (modes_of p.forms) (problem_rules p) no_hypotheses moded p.goal (entries list))

module _ (name : List ℕ) (files : Files) where
  outputs_one : (nodes : ℕ) (outputs : List Tree) → IsOne (VerifiesOutputs name files nodes outputs)
  outputs_one nodes outputs =
      then_one (Compares (interface_file name) (term_lines outputs) files) (λ done result. result ≡ Ok (verified_plan name nodes))
      (compares_one (interface_file name) (term_lines outputs) files) (λ done held x y h k n m. h ∙ sym k)

  module _ (p : Problem) (is_proper : IsProper p) where
    replay_one : (list : List EntryOf) → IsOne (VerifiesCoreEntries name files p list)
    replay_one list =
        then_one (ReplaysProblem (list_file name) p list) (VerifiesOutputs name files (length list)) (replays_one (list_file name) p list is_proper.moded)
        (λ outputs replayed. outputs_one (length list) outputs)

    verify_list_one : IsOne (VerifiesCoreList name files p)
    verify_list_one =
        then_one (ReadsEntries (list_file name) (problem_rule_names p) files) (VerifiesCoreEntries name files p) (list_one (list_file name) (problem_rule_names p)
        (record { named = is_proper.names; distinct = is_proper.distinct }) files)
        (λ list read. replay_one list)

    subject_one : IsOne (VerifiesCoreSubject name files p)
    subject_one =
        then_one (Compares (base_file name) (subject_text p.forms p.goal) files) (λ done. VerifiesCoreList name files p)
        (compares_one (base_file name) (subject_text p.forms p.goal) files) (λ done held. verify_list_one)

    goal_one : (budget : ℕ) → IsOneBy ◌≡◌ (BuildsGoal name (core_file name) budget p)
    goal_one budget =
        and_then_by ◌≡◌ (Trying (HasCoreWalked budget p) (Searches (core_file name) budget p)) (λ answer. Untried (λ result. result ≡ Ok (core_plan name p answer)))
        (trying_one (HasCoreWalked budget p) (Searches (core_file name) budget p) (λ m n h k. h ∙ sym k) (searches_one (core_file name) budget p is_proper.moded))
        (λ answer before found. trying_one NoTries (λ result. result ≡ Ok (core_plan name p answer)) no_tries_one (λ x y h k n m. h ∙ sym k))

-- ---- commands

commands_one : (words : List (List ℕ)) → IsOne (Commands words)
commands_one words (Ok a) (Ok b) h k n m = ap Ok (one_command words a b h k)
commands_one words (Ok a) (Err t) h k n m = absurd (no_misfit words a k.0 h k.1)
commands_one words (Err s) (Ok b) h k n m = absurd (no_misfit words b h.0 k h.1)
commands_one words (Err s) (Err t) h k n m = ap Err (h.2 ∙ ap bad_word (one_misfit words h.0 k.0 h.1 k.1) ∙ sym k.2)

module _ (core_one : (bytes : List ℕ) (a b : Result Problem CoreFileError) → IsCoreAnswer bytes a → IsCoreAnswer bytes b → (a ≢ Err core_error.Memory) → (b ≢ Err core_error.Memory) → a ≡ b) (headers : OneHeaderAnswer) where
  reads_one : (file : List ℕ) (files : Files) → IsOne (ReadsCore file files)
  reads_one file files =
      then_one (Held most_bytes file files) (λ bytes. Lower (core_stop file) (IsCoreAnswer bytes)) (held_one most_bytes file files)
      (λ bytes held. lower_but (core_stop file) (IsCoreAnswer bytes) core_error.Memory refl (core_one bytes))

  read_proper : (file : List ℕ) (files : Files) (p : Problem) → ReadsCore file files (Ok p) → IsProper p
  read_proper file files p read = let at = went _ _ _ read in proper at.given p at.goes

  builds_one : (name : List ℕ) (budget : ℕ) (files : Files) → IsOneBy ◌≡◌ (BuildsWhole name budget files)
  builds_one name budget files =
      and_then_by ◌≡◌ (Untried (ReadsCore (core_file name) files)) (BuildsGoal name (core_file name) budget) (trying_one NoTries (ReadsCore (core_file name) files) no_tries_one (reads_one (core_file name) files))
      (λ p before read. goal_one name files p (read_proper (core_file name) files p read.0) budget)

  verifies_one : (name : List ℕ) (files : Files) → IsOne (VerifiesWhole name files)
  verifies_one name files =
      then_one (ReadsCore (core_file name) files) (VerifiesCoreSubject name files) (reads_one (core_file name) files)
      (λ p read. subject_one name files p (read_proper (core_file name) files p read))

  runs_one : (command : Meant) (named : List Meaning) (files : Files) → IsOfCore command → IsOneBy ◌≡◌ (Runs command named files)
  runs_one (builds true name tries nodes audits) named files kept x y a b h k n m =
      builds_one name tries files x y a b h k n m
  runs_one (builds false name tries nodes audits) named files kept x y a b h k n m = absurd kept
  runs_one (compiles name tries nodes audits) named files kept x y a b h k n m = absurd kept
  runs_one (checks name tries nodes) named files kept x y a b h k n m = absurd kept
  runs_one (verifies true name) named files kept x y a b h k n m =
      trying_one NoTries (VerifiesWhole name files) no_tries_one (verifies_one name files) x y a b h
      k n m
  runs_one (verifies false name) named files kept x y a b h k n m = absurd kept
  runs_one (samples number) named files kept x y a b h k n m = absurd kept

  -- the auditors of a command are the same
  names_one : (handed : List Meaning) (command : Meant) → IsOne (NamesFor handed command)
  names_one handed command x y h k n m = names-once handed (audits_of command) x y h k

  runs_for_one : (handed : List Meaning) (files : Files) (command : Meant) → IsOfCore command →
      IsOneBy ◌≡◌ (RunsFor handed files command)
  runs_for_one handed files command kept =
      and_then_by ◌≡◌ (Untried (NamesFor handed command)) (λ named. Runs command named files)
      (trying_one NoTries (NamesFor handed command) no_tries_one (names_one handed command))
      (λ named before are. runs_one command named files kept)

  pub core_outcome_by : OneCoreOutcome
  unfolding RunOutcome
  core_outcome_by c none files a b m n h k p q =
      let one = and_then_by ◌≡◌ (Untried (Commands c.words)) (RunsFor c.auditors files)
      (trying_one NoTries (Commands c.words) no_tries_one (commands_one c.words))
      (λ command before read. runs_for_one c.auditors files command (none command read.0)) a b m n h
      k p q in
      (answers_same a b one.0, one.1)

  -- the steps of a command have one answer for it
  runs_by : BuildsAgree → CompilesAgree → VerifiesAgree → SamplesAgree → (command : Meant) (named : List Meaning)
      (files : Files) →
      IsOneBy (SameFor command named files) (Runs command named files)
  runs_by builds_same compiles_one verifies_same samples_same (builds true name tries nodes audits) named files x y a b h k n m =
      builds_one name tries files x y a b h k n m
  runs_by builds_same compiles_one verifies_same samples_same (builds false name tries nodes audits) named files x y a b h k n m =
      builds_same name (budgets_of tries nodes) named files x y a b h k n m
  runs_by builds_same compiles_one verifies_same samples_same (compiles name tries nodes audits) named files x y a b h k n m =
      compiles_one name (budgets_of tries nodes) named files x y a b h k n m
  runs_by builds_same compiles_one verifies_same samples_same (checks name tries nodes) named files x y a b h k n m =
      checks_one headers name (budgets_of tries nodes) files x y a b h k n m
  runs_by builds_same compiles_one verifies_same samples_same (verifies true name) named files x y a b h k n m =
      trying_one NoTries (VerifiesWhole name files) no_tries_one (verifies_one name files) x y a b h
      k n m
  runs_by builds_same compiles_one verifies_same samples_same (verifies false name) named files x y a b h k n m =
      verifies_same name files x y a b h k n m
  runs_by builds_same compiles_one verifies_same samples_same (samples number) named files x y a b h k n m =
      samples_same number x y a b h k n m

  -- and so for the words that spell it
  spelled_by : BuildsAgree → CompilesAgree → VerifiesAgree → SamplesAgree → (c : Call) (files : Files) (command : Meant) →
      SpellsCommand c.words command →
      IsOneBy (SameStops c files) (RunsFor c.auditors files command)
  spelled_by builds_same compiles_one verifies_same samples_same c files command spelled =
      and_then_by (SameStops c files) (Untried (NamesFor c.auditors command))
      (λ named. Runs command named files)
      (trying_same (SameStops c files) (λ s. inl refl) NoTries (NamesFor c.auditors command)
      no_tries_one (names_one c.auditors command))
      (λ named before are x y a b h k n m.
      let one = runs_by builds_same compiles_one verifies_same samples_same command named files x y a b h k n m in (
        answers_so (SameFor command named files) (SameStops c files)
            (λ s t same. inr (command, named, spelled, are.0, same)) x y one.0,
        one.1,
      ))

  pub one_outcome_by : BuildsAgree → CompilesAgree → VerifiesAgree → SamplesAgree → OneOutcome
  unfolding RunOutcome
  one_outcome_by builds_same compiles_one verifies_same samples_same c files =
      and_then_by (SameStops c files) (Untried (Commands c.words)) (RunsFor c.auditors files)
      (trying_same (SameStops c files) (λ s. inl refl) NoTries (Commands c.words) no_tries_one
      (commands_one c.words))
      (λ command before read. spelled_by builds_same compiles_one verifies_same samples_same c files command read.0)
