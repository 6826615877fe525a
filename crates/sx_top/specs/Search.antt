-- The step that finds the first derivation of a core problem's goal, by its walk.
use Rattle.std.specs.Prelude.{◌≡◌, ℕ, ◌≤◌, ◌^◌, ◌-◌, min, List, [], Result, Ok, Err, None}
use Rattle.sx_rules.specs.Views.{modes_of, subjects_in}
use Rattle.sx_rules.specs.First.{Answer}
use Rattle.sx_core.specs.Problem.{Problem}
use Rattle.sx_derive.specs.Walk.{Event, Cause, depth_spent as passes_depth}
use Rattle.sx_derive.specs.Walk.{too_deep as passes_terms, too_big as passes_size, events}
use Rattle.sx_derive.specs.Search.{Ending, found, stopped, spent, exhausted, walk, tries_of}
use Rattle.sx_derive.specs.Stuck.{Blame, IsStuck}
use Rattle.sx_steps.specs.declared.stop.Stop.{Stop}
use Rattle.sx_top.specs.FindFirst.{problem_rules}
use Rattle.sx_rules.specs.Rules.{no_hypotheses}
use Rattle.sx_top.specs.CoreStops.{underivable}
use Rattle.sx_steps.specs.Stops.{tries_spent, depth_spent, too_deep, too_big}
use Rattle.sx_rules.specs.Limits.{most_levels}

-- the events of the problem's goal, without hypotheses
abbrev pub core_goal_events : Problem → List (Event Answer)
core_goal_events problem =
    events (modes_of problem.forms) (problem_rules problem) no_hypotheses problem.goal
    1

-- the stuck goal of the problem's goal
abbrev pub IsCoreStuckGoal : Problem → Blame → Type 0
IsCoreStuckGoal problem blame =
    IsStuck (modes_of problem.forms) (subjects_in problem.forms)
    (problem_rules problem) no_hypotheses most_levels problem.goal [] blame

-- the limit that the walk passed
abbrev pub passed : List ℕ → Cause → Stop
passed file passes_depth = depth_spent file
passed file (passes_terms depth) = too_deep file (min depth (2 ^ 64 - 1))
passed file (passes_size size) = too_big file (min size (2 ^ 64 - 1))

-- what the ending of the walk comes to: what it found, or why it found nothing
abbrev pub SearchComesTo : List ℕ → Problem → ℕ → Ending → Result Answer Stop → Type 0
SearchComesTo file problem budget (found answer) result = result ≡ Ok answer
SearchComesTo file problem budget (stopped cause) result = result ≡ Err (passed file cause)
SearchComesTo file problem budget spent result = result ≡ Err (tries_spent file budget)
SearchComesTo file problem budget exhausted result = (blame : Blame)
    × IsCoreStuckGoal problem blame ×
    (result ≡ Err (underivable file problem blame))

-- the walk of the problem's goal, with so many tries to spend
abbrev pub Searches : List ℕ → ℕ → Problem → Result Answer Stop → Type 0
Searches file budget problem result =
    SearchComesTo file problem budget (walk None budget (core_goal_events problem)) result

-- the walk makes so many tries
abbrev pub HasCoreWalked : ℕ → Problem → ℕ → Type 0
HasCoreWalked budget problem tries = tries ≡ tries_of None budget (core_goal_events problem)

-- a walk makes no more tries than it may spend
abbrev pub WalksAreWithin : Type 0
WalksAreWithin = (budget : ℕ) (problem : Problem) (tries : ℕ) → HasCoreWalked budget problem tries →
    tries ≤ budget
