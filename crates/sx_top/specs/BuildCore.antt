-- The steps of `build --core NAME`, and what it promises.
use Rattle.std.specs.Prelude.{◌≡◌, ◌≢◌, ℕ, List, Result, Ok, Some}
use Rattle.sx_outside.specs.Files.{Files}
use Rattle.sx_rules.specs.Derivations.{nodes_of}
use Rattle.sx_rules.specs.Orders.{order_of}
use Rattle.sx_rules.specs.First.{Answer}
use Rattle.sx_core.specs.Problem.{Problem}
use Rattle.sx_core.specs.CoreRead.{IsCoreAnswer}
use Rattle.sx_top.specs.CoreTexts.{subject_text, list_text, term_lines}
use Rattle.sx_steps.specs.declared.step_error.StepError.{StepError}
use Rattle.sx_steps.specs.Steps.{Trying, Untried, AndThen}
use Rattle.sx_top.specs.ReadCore.{core_file, ReadsCore}
use Rattle.sx_steps.specs.Unit.{base_file, list_file, interface_file, built_line, built_plan}
use Rattle.sx_top.specs.FindFirst.{IsFirstOf}
use Rattle.sx_top.specs.Search.{Searches, HasCoreWalked}
use Rattle.sx_steps.specs.Work.{Plan}

-- the three files and the line
unfoldable pub core_plan : List ℕ → Problem → Answer → Plan
core_plan name problem answer =
    built_plan name (subject_text problem.forms problem.goal)
    (list_text problem.rules (order_of answer.0)) (term_lines answer.1) (nodes_of answer.0)

-- the first derivation of the problem's goal, and then the three files and the line
abbrev pub BuildsGoal : List ℕ → List ℕ → ℕ → Problem → Result Plan StepError → ℕ → Type 0
BuildsGoal name file budget problem =
    AndThen (Trying (HasCoreWalked budget problem) (Searches file budget problem))
    (λ answer. Untried (λ result. result ≡ Ok (core_plan name problem answer)))

-- the steps of the command, with the name of its file
abbrev pub BuildsFrom : List ℕ → List ℕ → ℕ → Files → Result Plan StepError → ℕ → Type 0
BuildsFrom name file budget files =
    AndThen (Untried (ReadsCore file files)) (BuildsGoal name file budget)

-- the steps of the command, with so many tries to spend
abbrev pub BuildsWhole : List ℕ → ℕ → Files → Result Plan StepError → ℕ → Type 0
BuildsWhole name budget files = BuildsFrom name (core_file name) budget files

-- The three files are those of the first derivation of the goal that NAME.core states, all other
-- files are as before, and the line tells the number of its nodes.
pub record BuiltUnit (name : List ℕ) (old new : Files) (lines : List ℕ) : Type 0 where
  pub bytes : List ℕ
  pub problem : Problem
  pub answer : Answer
  pub held : old (core_file name) ≡ Some bytes
  pub stated : IsCoreAnswer bytes (Ok problem)
  pub first : IsFirstOf problem answer
  pub base : new (base_file name) ≡ Some (subject_text problem.forms problem.goal)
  pub list : new (list_file name) ≡ Some (list_text problem.rules (order_of answer.0))
  pub interface : new (interface_file name) ≡ Some (term_lines answer.1)
  pub others : (other : List ℕ) → other ≢ base_file name → other ≢ list_file name →
      other ≢ interface_file name → new other ≡ old other
  pub line : lines ≡ built_line name (nodes_of answer.0)
