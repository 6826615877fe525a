-- What holds of the outputs of derivations and of stuck goals, by rules that are a rule set.
use Rattle.std.specs.Prelude.{◌≡◌, ℕ, List, [], ◌∷◌, ◌⊎◌, Some, map, slice_get}
use Rattle.std.specs.List.{AllByRecursion}
use Rattle.sx_term.specs.Tree.{Tree, part_at}
use Rattle.sx_term.specs.Sorts.{Shape, HaveSorts}
use Rattle.sx_term.specs.declared.sort.Sort.{Sort}
use Rattle.sx_grammar.specs.Grammar.{Text}
use Rattle.sx_print.specs.Cut.{HasLexemes}
use Rattle.sx_rules.specs.Rules.{Rule, no_hypotheses}
use Rattle.sx_rules.specs.Modes.{inputs, outputs, Goal}
use Rattle.sx_rules.specs.Sorts.{GoalIsSorted}
use Rattle.sx_rules.specs.Views.{FormData, NamedRule, modes_of, subjects_in, sorts_of}
use Rattle.sx_rules.specs.Good.{IsRuleSet}
use Rattle.sx_rules.specs.First.{Answer, DerivesGoal}
use Rattle.sx_derive.specs.Stuck.{Blame, IsStuck}
use Rattle.sx_notation.specs.Language.{RuleHasLexemes}
use Rattle.sx_stuck.specs.StuckGoals.{GotIsSorted}

-- the rules without their names
abbrev pub nameless : List NamedRule → List Rule
nameless rules = map (λ r. r.rule) rules

-- where the lexemes of the rules and of a goal are tokens, so are those of the outputs of each
-- derivation of the goal
abbrev pub OutputsHaveLexemes : Type 0
OutputsHaveLexemes =
    (literals : List Text) (shapes : List Shape) (forms : List FormData) (rules : List NamedRule) →
    IsRuleSet shapes forms rules → AllByRecursion (RuleHasLexemes literals) rules →
    (goal : Goal) (a : Answer) → AllByRecursion (HasLexemes literals) goal.terms →
    DerivesGoal (modes_of forms) (nameless rules) no_hypotheses goal a →
    AllByRecursion (HasLexemes literals) a.1

-- the outputs of each derivation of a well sorted goal have the sorts of its form's outputs
abbrev pub OutputsAreSorted : Type 0
OutputsAreSorted =
    (shapes : List Shape) (forms : List FormData) (rules : List NamedRule) →
    IsRuleSet shapes forms rules →
    (vars : List Sort) (goal : Goal) (a : Answer) →
    GoalIsSorted shapes (sorts_of forms) (modes_of forms) vars goal →
    DerivesGoal (modes_of forms) (nameless rules) no_hypotheses goal a →
    HaveSorts shapes vars a.1 (outputs (modes_of forms goal.form) (sorts_of forms goal.form))

-- what stands at the subject places among the inputs of a goal
abbrev pub goal_subjects : List FormData → Goal → List Tree
goal_subjects forms goal =
    outputs (inputs (modes_of forms goal.form) (subjects_in forms goal.form)) goal.terms

-- the path leads to a part of the term, and this is the goal's subject, unless the goal has none
abbrev pub LeadsToPart : List FormData → Tree → List ℕ → Goal → Type 0
LeadsToPart forms top path goal = (part : Tree) × (part_at top path ≡ Some part) ×
    ((goal_subjects forms goal ≡ []) ⊎ (goal_subjects forms goal ≡ part ∷ []))

-- the stuck goal is of one of the forms, it and the outputs got are well sorted, and its path leads
-- to its subject in the term
pub record IsBlameIn (shapes : List Shape) (forms : List FormData) (vars : List Sort) (top : Tree)
    (blame : Blame) : Type 0 where
  pub form : FormData
  pub is : slice_get forms blame.goal.form ≡ Some form
  pub sorted : GoalIsSorted shapes (sorts_of forms) (modes_of forms) vars blame.goal
  pub got : GotIsSorted shapes vars blame.reason
      (outputs (modes_of forms blame.goal.form) (sorts_of forms blame.goal.form))
  pub leads : LeadsToPart forms top blame.path blame.goal

-- so it is of the stuck goal of a goal for which this holds
abbrev pub StuckGoalsFit : Type 0
StuckGoalsFit =
    (shapes : List Shape) (forms : List FormData) (rules : List NamedRule) →
    IsRuleSet shapes forms rules →
    (vars : List Sort) (top : Tree) (levels : ℕ) (goal : Goal) (form : FormData) (path : List ℕ)
    (blame : Blame) →
    slice_get forms goal.form ≡ Some form →
    GoalIsSorted shapes (sorts_of forms) (modes_of forms) vars goal →
    LeadsToPart forms top path goal →
    IsStuck (modes_of forms) (subjects_in forms) (nameless rules) no_hypotheses levels goal path
    blame →
    IsBlameIn shapes forms vars top blame
