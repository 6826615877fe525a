-- What a search tells, where no hypotheses are given.
use Rattle.std.proofs.Common.{◌≡◌, ◌≤◌, ℕ, List, []}
use Rattle.std.proofs.Common.{None, arith}
use Rattle.sx_term.specs.declared.sort.Sort.{Sort}
use Rattle.sx_term.specs.Sorts.{Shape}
use Rattle.sx_term.specs.Tree.{Tree}
use Rattle.sx_grammar.specs.Grammar.{Text}
use Rattle.sx_rules.specs.Derivations.{height_of, HasShallowBinds}
use Rattle.sx_rules.specs.First.{Answer}
use Rattle.sx_rules.specs.Modes.{Goal}
use Rattle.sx_rules.specs.Views.{FormData, NamedRule, modes_of, subjects_in}
use Rattle.sx_rules.proofs.Refusals.{good_moded}
use Rattle.sx_derive.specs.Walk.{events}
use Rattle.sx_derive.specs.Search.{found, walk}
use Rattle.sx_derive.proofs.Blamed.{exhausted_has_no_stop}
use Rattle.sx_derive.proofs.BlameDepths.{stuck_goal_is_shallow}
use Rattle.sx_derive.proofs.Bounded.{answers_are_bounded}
use Rattle.sx_derive.proofs.FoundEach.{found_each}
use Rattle.sx_derive.proofs.Walked.{found_is_first}
use Rattle.sx_typing.specs.Outcomes.{nameless}
use Rattle.sx_rules.specs.Rules.{no_hypotheses}
use Rattle.sx_typing.specs.Searched.{IsGoalFor, FoundOutputsFit, ExhaustedGoalsFit}
use Rattle.sx_typing.proofs.Lexemes.{outputs_have_lexemes}
use Rattle.sx_typing.proofs.SortedGoals.{outputs_are_sorted, stuck_goals_fit}

pub found_outputs_fit : FoundOutputsFit
found_outputs_fit literals shapes forms rules set have vars top goal good wanted budget a e =
    let first = found_is_first (modes_of forms) (nameless rules) no_hypotheses
    (good_moded shapes forms [] rules set.1) goal wanted budget 1 a e in
    let bounds = found_each _ wanted budget
    (events (modes_of forms) (nameless rules) no_hypotheses goal 1) a
    (answers_are_bounded (modes_of forms) (nameless rules) no_hypotheses tt goal 1 good.shallow)
    e in
    record {
      sorted = outputs_are_sorted shapes forms rules set vars goal a good.sorted first.derives;
      lexemes = outputs_have_lexemes literals shapes forms rules set have goal a good.lexemes
          first.derives;
      shallow = bounds.2;
    }

-- what is found is within the limits of derivations
pub found_is_bounded : (literals : List Text) (shapes : List Shape) (forms : List FormData)
    (rules : List NamedRule) (vars : List Sort) (top : Tree) (goal : Goal) →
    IsGoalFor literals shapes forms vars top goal → (budget : ℕ) (a : Answer) →
    walk None budget (events (modes_of forms) (nameless rules) no_hypotheses goal 1) ≡ found a →
    (height_of a.0 ≤ 3000) × HasShallowBinds a.0
found_is_bounded literals shapes forms rules vars top goal good budget a e =
    let bounds =
    found_each _ None budget (events (modes_of forms) (nameless rules) no_hypotheses goal 1) a
    (answers_are_bounded (modes_of forms) (nameless rules) no_hypotheses tt goal 1 good.shallow) e in
    (omega (arith, bounds.0), bounds.1)

pub exhausted_goals_fit : ExhaustedGoalsFit
exhausted_goals_fit literals shapes forms rules set vars top goal good wanted budget blame e s = (
  stuck_goals_fit shapes forms rules set vars top 3000 goal good.form [] blame good.is good.sorted
      good.leads s,
  stuck_goal_is_shallow (modes_of forms) (subjects_in forms) (nameless rules) no_hypotheses
      (good_moded shapes forms [] rules set.1) tt 1 goal [] blame good.shallow
      (exhausted_has_no_stop wanted budget
      (events (modes_of forms) (nameless rules) no_hypotheses goal 1) e) s,
)
