-- What holds of stuck goals, by rules that are a rule set.
use Rattle.std.specs.Prelude.{◌≡◌, ℕ, List, Some, map, slice_get}
use Rattle.sx_term.specs.Sorts.{Shape, HaveSorts}
use Rattle.sx_term.specs.declared.sort.Sort.{Sort}
use Rattle.sx_rules.specs.Good.{IsRuleSet}
use Rattle.sx_rules.specs.Modes.{outputs, Goal}
use Rattle.sx_rules.specs.Rules.{Hypotheses}
use Rattle.sx_rules.specs.Sorts.{GoalIsSorted, JudgementsAreSorted}
use Rattle.sx_rules.specs.Views.{FormData, NamedRule, modes_of, subjects_in, sorts_of}
use Rattle.sx_derive.specs.Stuck.{Blame, Reason, no_rule, unequal, mismatch, IsStuck}

-- the outputs that were got, where some were, have these sorts
abbrev pub GotIsSorted : List Shape → List Sort → Reason → List Sort → Type 0
GotIsSorted shapes vars no_rule sorts = Unit {0}
GotIsSorted shapes vars (unequal rule premise) sorts = Unit {0}
GotIsSorted shapes vars (mismatch by got) sorts = HaveSorts shapes vars got sorts

-- the stuck goal is of one of the forms, and it and the outputs got are well sorted
pub record IsSortedBlame (shapes : List Shape) (forms : List FormData) (vars : List Sort)
    (blame : Blame) : Type 0 where
  pub form : FormData
  pub is : slice_get forms blame.goal.form ≡ Some form
  pub sorted : GoalIsSorted shapes (sorts_of forms) (modes_of forms) vars blame.goal
  pub got : GotIsSorted shapes vars blame.reason
      (outputs (modes_of forms blame.goal.form) (sorts_of forms blame.goal.form))

-- so it is of the stuck goal of a goal for which this holds, from well sorted hypotheses
abbrev pub StuckGoalsAreSorted : Type 0
StuckGoalsAreSorted =
    (shapes : List Shape) (forms : List FormData) (rules : List NamedRule) →
    IsRuleSet shapes forms rules →
    (hyps : Hypotheses) (vars : List Sort) →
    JudgementsAreSorted shapes (sorts_of forms) vars hyps.judgements →
    (levels : ℕ) (goal : Goal) (form : FormData) (path : List ℕ) (blame : Blame) →
    slice_get forms goal.form ≡ Some form →
    GoalIsSorted shapes (sorts_of forms) (modes_of forms) vars goal →
    IsStuck (modes_of forms) (subjects_in forms) (map (λ r. r.rule) rules) hyps levels goal path
    blame →
    IsSortedBlame shapes forms vars blame
