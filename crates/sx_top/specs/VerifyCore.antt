-- The steps of `verify --core NAME`, and what it promises.
use Rattle.std.specs.Prelude.{◌≡◌, ℕ, List, length, Result, Ok, Some}
use Rattle.sx_outside.specs.Files.{Files}
use Rattle.sx_term.specs.Tree.{Tree}
use Rattle.sx_lines.specs.Lines.{lines_from, line_texts}
use Rattle.sx_rules.specs.declared.entry.Entry.{Entry as EntryOf}
use Rattle.sx_rules.specs.Views.{modes_of}
use Rattle.sx_rules.specs.First.{Answer, DerivesGoal}
use Rattle.sx_rules.specs.Orders.{order_of}
use Rattle.sx_rules.specs.EntryView.{entries}
use Rattle.sx_rules.specs.ListText.{StatesList}
use Rattle.sx_core.specs.Problem.{Problem}
use Rattle.sx_core.specs.CoreRead.{IsCoreAnswer}
use Rattle.sx_replay.specs.Replay.{IsReplayAnswer}
use Rattle.sx_steps.specs.declared.stop.Stop.{Stop}
use Rattle.sx_steps.specs.Steps.{Then}
use Rattle.sx_steps.specs.Lower.{Lower}
use Rattle.sx_verify.specs.Lists.{replay_stop, ReadsEntries}
use Rattle.sx_verify.specs.Verified.{verified_line, verified_plan}
use Rattle.sx_top.specs.ReadCore.{core_file, problem_rule_names, ReadsCore}
use Rattle.sx_steps.specs.Unit.{base_file, list_file, interface_file}
use Rattle.sx_top.specs.Written.{Compares}
use Rattle.sx_top.specs.FindFirst.{problem_rules}
use Rattle.sx_rules.specs.Rules.{no_hypotheses}
use Rattle.sx_top.specs.CoreTexts.{subject_text, term_lines}
use Rattle.sx_steps.specs.Work.{Plan}

-- the outputs of the derivation with the list, or why it fits none
abbrev pub ReplaysProblem : List ℕ → Problem → List EntryOf → Result (List Tree) Stop → Type 0
ReplaysProblem file problem list =
    Lower (replay_stop file) (IsReplayAnswer (modes_of problem.forms)
    (problem_rules problem) no_hypotheses problem.goal (entries list))

-- the outputs are compared
abbrev pub VerifiesOutputs : List ℕ → Files → ℕ → List Tree → Result Plan Stop → Type 0
VerifiesOutputs name files nodes outputs =
    Then (Compares (interface_file name) (term_lines outputs) files)
    (λ done result. result ≡ Ok (verified_plan name nodes))

-- the list is replayed, and then the outputs are compared
abbrev pub VerifiesCoreEntries : List ℕ → Files → Problem → List EntryOf → Result Plan Stop → Type 0
VerifiesCoreEntries name files problem list =
    Then (ReplaysProblem (list_file name) problem list) (VerifiesOutputs name files (length list))

-- the list is read, replayed, and then the outputs are compared
abbrev pub VerifiesCoreList : List ℕ → Files → Problem → Result Plan Stop → Type 0
VerifiesCoreList name files problem =
    Then (ReadsEntries (list_file name) (problem_rule_names problem) files)
    (VerifiesCoreEntries name files problem)

-- the subject is compared, and then the list is verified
abbrev pub VerifiesCoreSubject : List ℕ → Files → Problem → Result Plan Stop → Type 0
VerifiesCoreSubject name files problem =
    Then (Compares (base_file name) (subject_text problem.forms problem.goal) files)
    (λ done. VerifiesCoreList name files problem)

-- the file, then its subject, its list and its outputs
abbrev pub VerifiesWhole : List ℕ → Files → Result Plan Stop → Type 0
VerifiesWhole name files = Then (ReadsCore (core_file name) files) (VerifiesCoreSubject name files)

-- NAME.base is the text of the goal's subject, the list of NAME.der is that of a derivation of the
-- goal, and NAME.int has the texts of its outputs. All files are as before, and the line tells the
-- number of entries.
pub record VerifiedUnit (name : List ℕ) (old new : Files) (lines : List ℕ) : Type 0 where
  pub bytes : List ℕ
  pub problem : Problem
  pub list : List EntryOf
  pub list_bytes : List ℕ
  pub answer : Answer
  pub held : old (core_file name) ≡ Some bytes
  pub stated : IsCoreAnswer bytes (Ok problem)
  pub base : old (base_file name) ≡ Some (subject_text problem.forms problem.goal)
  pub listed : old (list_file name) ≡ Some list_bytes
  pub states_list : StatesList (problem_rule_names problem) (line_texts (lines_from 1 list_bytes))
      list
  pub derives : DerivesGoal (modes_of problem.forms) (problem_rules problem) no_hypotheses
      problem.goal answer
  pub in_order : order_of answer.0 ≡ entries list
  pub interface : old (interface_file name) ≡ Some (term_lines answer.1)
  pub files : new ≡ old
  pub line : lines ≡ verified_line name (length list)
