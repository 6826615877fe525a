-- What a walk of a goal by its numbers answers.
use Rattle.std.specs.Prelude.{◌≡◌, ℕ, suc, ◌+◌, ◌≤◌, List, length, reverse, Option, Some, None}
use Rattle.std.specs.Prelude.{Vec, Result, Ok, Err}
use Rattle.std.specs.declared.alloc.Global.{Global}
use Rattle.sx_term.specs.declared.no_memory.NoMemory.{NoMemory}
use Rattle.sx_rules.specs.Rules.{Judgement, Rule}
use Rattle.sx_rules.specs.Modes.{Modes}
use Rattle.sx_arena.specs.Pairs.{ArePairs}
use Rattle.sx_arena.specs.Views.{rules_of, set_modes}
use Rattle.sx_arena.specs.declared.pairs.Pair.{Pair}
use Rattle.sx_derive.specs.Candidates.{goal_in}
use Rattle.sx_derive.specs.Failing.{FailsAlong}
use Rattle.sx_derive.specs.Givens.{HasFacts}
use Rattle.sx_derive.specs.Handing.{hyps_in}
use Rattle.sx_derive.specs.Runs.{IsRunBy}
use Rattle.sx_derive.specs.Search.{walk, tries_of}
use Rattle.sx_derive.specs.Store.{StoreGrows, store_trees}
use Rattle.sx_derive.specs.Tasks.{wanted_in, IsEnding, WantedBelow}
use Rattle.sx_derive.specs.Walk.{Event, Answer, goal_events}
use Rattle.sx_derive.specs.declared.given.Given.{Given}
use Rattle.sx_derive.specs.declared.numbered_goal.NumberedGoal.{NumberedGoal}
use Rattle.sx_derive.specs.declared.store.Store.{Store}
use Rattle.sx_derive.specs.declared.tasks.Ending.{Ending as EndingOf}
use Rattle.sx_derive.specs.declared.tasks.Ending.TheVariants.{
  Found,
  Passed,
  DepthSpent,
  Spent,
  Exhausted,
}
use Rattle.sx_derive.specs.declared.tasks.Task.{Task as TaskOf}
use Rattle.sx_derive.specs.declared.walk.Walked.{Walked}

-- the events of the goal with the numbers, with that many levels below it
abbrev pub events_in : Modes → List Rule → List Pair → List Judgement → Store → ℕ → ℕ → List ℕ →
    List (Event Answer)
events_in modes rules pairs js s levels form terms =
    goal_events modes rules (hyps_in pairs s js) (suc levels) (goal_in s form terms)

-- the ending is an answer, and its outputs are not those that are wanted
abbrev pub IsUnwanted : Option (Vec ℕ Global) → EndingOf → Type 0
IsUnwanted None ending = ⊥
IsUnwanted (Some outs) (Found head others) = others.items ≡ outs.items → ⊥
IsUnwanted (Some outs) (Passed limit) = ⊥
IsUnwanted (Some outs) DepthSpent = ⊥
IsUnwanted (Some outs) Spent = ⊥
IsUnwanted (Some outs) Exhausted = ⊥

-- the events begun in the first store have come to the ending, with so many tries left
pub record HasComeTo (g : Given) (first s : Store) (js : List Judgement) (budget left : ℕ)
    (es : List (Event Answer)) (tasks : List TaskOf) (ending : EndingOf) : Type 0 where
  pub facts : HasFacts g first js
  pub pairs : ArePairs (length (store_trees first)) g.pairs.now
  pub comes : IsRunBy g js first s budget left es tasks ending

-- some events have come to the ending, where the wanted outputs are in the first store
abbrev pub CanComeTo : Given → Store → Option (Vec ℕ Global) → ℕ → List TaskOf → EndingOf → Type 0
CanComeTo g s wanted left tasks ending =
    (first : Store) × (js : List Judgement) × (budget : ℕ) × (es : List (Event Answer))
    × WantedBelow (length (store_trees first)) wanted
    × HasComeTo g first s js budget left es tasks ending

-- the ending is how the walk of the events ends, so many tries left after all of its own
abbrev pub WalkEnds : Modes → List Rule → Store → Store → Option (Vec ℕ Global) → ℕ → ℕ →
    List (Event Answer) → EndingOf → Type 0
WalkEnds modes rules old new wanted budget left es ending =
    StoreGrows modes rules old new × IsEnding new ending (walk (wanted_in old wanted) budget es)
    × (budget ≡ tries_of (wanted_in old wanted) budget es + left)

-- whichever events have come to the ending, the other is how their walk ends
abbrev pub GoesOnTo : Given → Store → Store → Option (Vec ℕ Global) → ℕ → ℕ → List TaskOf →
    EndingOf → EndingOf → Type 0
GoesOnTo g old new wanted tries left tasks ending r =
    (first : Store) (js : List Judgement) (budget : ℕ) (es : List (Event Answer)) →
    WantedBelow (length (store_trees first)) wanted →
    HasComeTo g first old js budget tries es tasks ending →
    WalkEnds (set_modes g.rules.now) (rules_of g.rules.now) first new wanted budget left es r

-- the ending is how the walk of the goal ends, so many tries left after it, and where the goal has
-- no answer the notes say where it fails
abbrev pub IsWalkedTo : Modes → List Rule → List Pair → List Judgement → Store → Store →
    Option (Vec ℕ Global) → ℕ → ℕ → NumberedGoal → Walked → Type 0
IsWalkedTo modes rules pairs js old new wanted budget left goal w =
    WalkEnds modes rules old new wanted budget left
    (events_in modes rules pairs js old goal.levels goal.form goal.terms.items) w.ending
    × FailsAlong modes rules (hyps_in pairs old js) (suc goal.levels)
    (goal_in old goal.form goal.terms.items) (reverse w.notes.items)

-- so after all of its tries, which are counted; without memory some of its tries were made
abbrev pub IsWalked : Modes → List Rule → List Pair → List Judgement → Store → Store →
    Option (Vec ℕ Global) → ℕ → NumberedGoal → ℕ → ℕ → Result Walked NoMemory → Type 0
IsWalked modes rules pairs js old new wanted budget goal first last (Ok w) =
    (left : ℕ) × IsWalkedTo modes rules pairs js old new wanted budget left goal w
    × (last + left ≡ first + budget)
IsWalked modes rules pairs js old new wanted budget goal first last (Err e) =
    (first ≤ last) × (last ≤ first + tries_of (wanted_in old wanted) budget
    (events_in modes rules pairs js old goal.levels goal.form goal.terms.items))
