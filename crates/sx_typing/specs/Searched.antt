-- What holds of what a search by a rule set tells, where no hypotheses are given.
use Rattle.std.specs.Prelude.{◌≡◌, ℕ, List, [], Option, Some, slice_get}
use Rattle.std.specs.List.{AllByRecursion}
use Rattle.sx_term.specs.Tree.{Tree}
use Rattle.sx_term.specs.Sorts.{Shape, HaveSorts}
use Rattle.sx_term.specs.declared.sort.Sort.{Sort}
use Rattle.sx_grammar.specs.Grammar.{Text}
use Rattle.sx_print.specs.Cut.{HasLexemes}
use Rattle.sx_rules.specs.Deep.{AreShallow}
use Rattle.sx_rules.specs.Modes.{outputs, Goal}
use Rattle.sx_rules.specs.Sorts.{GoalIsSorted}
use Rattle.sx_rules.specs.Views.{FormData, NamedRule, modes_of, subjects_in, sorts_of}
use Rattle.sx_rules.specs.Good.{IsRuleSet}
use Rattle.sx_rules.specs.First.{Answer}
use Rattle.sx_derive.specs.Walk.{events}
use Rattle.sx_derive.specs.Search.{found, exhausted, walk}
use Rattle.sx_derive.specs.Stuck.{Blame, IsStuck}
use Rattle.sx_derive.specs.BlameTerms.{BlameIsShallow}
use Rattle.sx_notation.specs.Language.{RuleHasLexemes}
use Rattle.sx_typing.specs.Outcomes.{nameless, LeadsToPart, IsBlameIn}
use Rattle.sx_rules.specs.Rules.{no_hypotheses}
use Rattle.sx_rules.specs.Limits.{most_levels}

-- the goal is of one of the forms and well sorted, its lexemes are tokens, it is no deeper than
-- 1,000, and its subject is this term
pub record IsGoalFor (literals : List Text) (shapes : List Shape) (forms : List FormData)
    (vars : List Sort) (top : Tree) (goal : Goal) : Type 0 where
  pub form : FormData
  pub is : slice_get forms goal.form ≡ Some form
  pub sorted : GoalIsSorted shapes (sorts_of forms) (modes_of forms) vars goal
  pub lexemes : AllByRecursion (HasLexemes literals) goal.terms
  pub shallow : AreShallow goal.terms
  pub leads : LeadsToPart forms top [] goal

-- the outputs are well sorted and no deeper than 1,000, and their lexemes are tokens
pub record AreOutputsFor (literals : List Text) (shapes : List Shape) (forms : List FormData)
    (vars : List Sort) (goal : Goal) (outs : List Tree) : Type 0 where
  pub sorted : HaveSorts shapes vars outs
      (outputs (modes_of forms goal.form) (sorts_of forms goal.form))
  pub lexemes : AllByRecursion (HasLexemes literals) outs
  pub shallow : AreShallow outs

-- so it is of the outputs that are found for such a goal
abbrev pub FoundOutputsFit : Type 0
FoundOutputsFit =
    (literals : List Text) (shapes : List Shape) (forms : List FormData) (rules : List NamedRule) →
    IsRuleSet shapes forms rules → AllByRecursion (RuleHasLexemes literals) rules →
    (vars : List Sort) (top : Tree) (goal : Goal) → IsGoalFor literals shapes forms vars top goal →
    (wanted : Option (List Tree)) (budget : ℕ) (a : Answer) →
    walk wanted budget (events (modes_of forms) (nameless rules) no_hypotheses goal 1) ≡ found a →
    AreOutputsFor literals shapes forms vars goal a.1

-- where nothing is found, the stuck goal of such a goal is well sorted and no deeper than 1,000,
-- and its path leads to its subject
abbrev pub ExhaustedGoalsFit : Type 0
ExhaustedGoalsFit =
    (literals : List Text) (shapes : List Shape) (forms : List FormData) (rules : List NamedRule) →
    IsRuleSet shapes forms rules →
    (vars : List Sort) (top : Tree) (goal : Goal) → IsGoalFor literals shapes forms vars top goal →
    (wanted : Option (List Tree)) (budget : ℕ) (blame : Blame) →
    walk wanted budget (events (modes_of forms) (nameless rules) no_hypotheses goal 1) ≡ exhausted →
    IsStuck (modes_of forms) (subjects_in forms) (nameless rules) no_hypotheses most_levels goal []
    blame →
    IsBlameIn shapes forms vars top blame × BlameIsShallow blame
