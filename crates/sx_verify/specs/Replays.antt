-- The step that replays the list of a module.
use Rattle.std.specs.Prelude.{◌≡◌, ℕ, ◌≤◌, List, [], ◌∷◌, Result, Ok, Err}
use Rattle.sx_term.specs.declared.role.Role.{Role}
use Rattle.sx_term.specs.declared.role.Role.TheVariants.{In, Sub}
use Rattle.sx_term.specs.Sorts.{HasSort}
use Rattle.sx_term.specs.Tree.{Tree, depth_of}
use Rattle.sx_grammar.specs.Told.{shapes_of}
use Rattle.sx_rules.specs.declared.entry.Entry.{Entry}
use Rattle.sx_rules.specs.EntryView.{entries}
use Rattle.sx_rules.specs.Modes.{Goal}
use Rattle.sx_rules.specs.Views.{FormData, NamedRule, modes_of}
use Rattle.sx_notation.specs.Language.{LanguageData}
use Rattle.sx_typing.specs.MainGoals.{main_goal}
use Rattle.sx_typing.specs.Outcomes.{nameless}
use Rattle.sx_rules.specs.Rules.{no_hypotheses}
use Rattle.sx_typing.specs.BodySource.{main_sort}
use Rattle.sx_replay.specs.Replay.{IsReplayAnswer}
use Rattle.sx_steps.specs.declared.stop.Stop.{Stop}
use Rattle.sx_steps.specs.Lower.{Lower}
use Rattle.sx_verify.specs.Lists.{replay_stop}
use Rattle.sx_term.specs.Limits.{most_depth}

-- the goal of the main form with this environment and this subject
abbrev pub main_goal_in : LanguageData → (environment subject : Tree) → Goal
main_goal_in d environment subject = main_goal d.forms d.main.form environment subject

-- a term of the language for the place of the main form with this role, without variables and at
-- most 1,000 deep
abbrev pub IsTermOf : LanguageData → Role → Tree → Type 0
IsTermOf d role t = HasSort (shapes_of d.parts) [] t (main_sort d role) × (depth_of t ≤ most_depth)

-- the goal is that of the main form with such terms
pub record IsMainGoal (d : LanguageData) (goal : Goal) : Type 0 where
  pub environment : Tree
  pub subject : Tree
  pub input : IsTermOf d In environment
  pub typed : IsTermOf d Sub subject
  pub is : goal ≡ main_goal_in d environment subject

-- the outputs of the derivation of the goal, by these rules alone, that has the list of the file,
-- or
-- why it fits none
abbrev pub ReplaysGoal : (file : List ℕ) → List FormData → List NamedRule → Goal → List Entry →
    Result (List Tree) Stop → Type 0
ReplaysGoal file forms rules goal list = Lower (replay_stop file)
    (IsReplayAnswer (modes_of forms) (nameless rules) no_hypotheses goal (entries list))

-- so it is by the rules of the language, with one output
abbrev pub ReplaysMainGoal : (file : List ℕ) → LanguageData → Goal → List Entry → Result Tree Stop →
    Type 0
ReplaysMainGoal file d goal list (Ok output) =
    ReplaysGoal file d.forms d.rules goal list (Ok (output ∷ []))
ReplaysMainGoal file d goal list (Err stop) = ReplaysGoal file d.forms d.rules goal list (Err stop)
