-- What a walk comes to whose tasks are kept.
use Rattle.std.specs.Prelude.{◌≡◌, ℕ, ◌+◌, ◌<◌, List, [], ◌∷◌, length}
use Rattle.sx_rules.specs.Rules.{Judgement, Rule}
use Rattle.sx_rules.specs.Modes.{Modes}
use Rattle.sx_arena.specs.Arena.{AreBelow}
use Rattle.sx_arena.specs.Pairs.{ArePairs}
use Rattle.sx_arena.specs.Views.{rules_of, set_modes}
use Rattle.sx_arena.specs.declared.pairs.Pair.{Pair}
use Rattle.sx_derive.specs.Chains.{HeadFits}
use Rattle.sx_derive.specs.Givens.{HasFacts}
use Rattle.sx_derive.specs.Halting.{AfterTries, HaltsAfter}
use Rattle.sx_derive.specs.Handing.{answer_in}
use Rattle.sx_derive.specs.Store.{StoreGrows, store_trees, store_envs, store_kids}
use Rattle.sx_derive.specs.Tasks.{events_left, Piled, TasksFit}
use Rattle.sx_derive.specs.Walk.{Event, give, Answer}
use Rattle.sx_derive.specs.declared.given.Given.{Given}
use Rattle.sx_derive.specs.declared.store.Store.{Store}
use Rattle.sx_derive.specs.declared.tasks.Ending.{Ending as EndingOf}
use Rattle.sx_derive.specs.declared.tasks.Ending.TheVariants.{
  Found,
  Passed,
  DepthSpent,
  Spent,
  Exhausted,
}
use Rattle.sx_derive.specs.declared.tasks.Task.{Task as TaskOf}

-- how many candidates a goal has
abbrev pub candidates_of : Given → ℕ
candidates_of g = length g.facts.now + length (rules_of g.rules.now)

-- the tasks may stand in the stores that there were when they were made, from the first on
abbrev pub PiledIn : Given → Store → List TaskOf → Store → Type 0
PiledIn g first tasks s =
    Piled (set_modes g.rules.now) (rules_of g.rules.now) (candidates_of g) first tasks s

-- the tasks may stand in the store
abbrev pub FitIn : Given → Store → List TaskOf → Type 0
FitIn g s tasks =
    TasksFit (set_modes g.rules.now) (rules_of g.rules.now) s (candidates_of g) tasks

-- the facts are the judgements and the pairs are there in the first store, from which on the tasks
-- are piled
pub record StandFrom (g : Given) (first : Store) (js : List Judgement) (tasks : List TaskOf)
    (s : Store) : Type 0 where
  pub facts : HasFacts g first js
  pub pairs : ArePairs (length (store_trees first)) g.pairs.now
  pub piled : PiledIn g first tasks s

-- there is such a store
abbrev pub StandsSomewhere : Given → List TaskOf → Store → Type 0
StandsSomewhere g tasks s = (first : Store) × (js : List Judgement) × StandFrom g first js tasks s

-- what is left of the tasks
abbrev pub left_by : Given → List Judgement → Store → List TaskOf → List (Event Answer)
left_by g js s tasks =
    events_left (set_modes g.rules.now) (rules_of g.rules.now) g.pairs.now js s tasks

-- what the events come to after some tries, in a store that goes on from the first one; after an
-- answer they are those of the tasks
abbrev pub IsRunTo : Modes → List Rule → List Pair → List Judgement → ℕ → Store → Store → ℕ → ℕ →
    List (Event Answer) → List TaskOf → EndingOf → Type 0
IsRunTo modes rules pairs js candidates first new old left es tasks (Found head outs) =
    StoreGrows modes rules first new × Piled modes rules candidates first tasks new
    × HeadFits (length (store_envs new)) (length (store_kids new)) head
    × AreBelow (length (store_trees new)) outs.items
    × AfterTries old left es (give (answer_in new head outs.items)
    ∷ events_left modes rules pairs js new tasks)
IsRunTo modes rules pairs js candidates first new old left es tasks Exhausted =
    StoreGrows modes rules first new × AfterTries old left es [] × (tasks ≡ [])
IsRunTo modes rules pairs js candidates first new old left es tasks (Passed limit) =
    StoreGrows modes rules first new × HaltsAfter old left es (Passed limit)
IsRunTo modes rules pairs js candidates first new old left es tasks DepthSpent =
    StoreGrows modes rules first new × HaltsAfter old left es DepthSpent
IsRunTo modes rules pairs js candidates first new old left es tasks Spent =
    StoreGrows modes rules first new × HaltsAfter old left es Spent

-- so by what a search is given
abbrev pub IsRunBy : Given → List Judgement → Store → Store → ℕ → ℕ → List (Event Answer) →
    List TaskOf → EndingOf → Type 0
IsRunBy g js first new old left es tasks ending =
    IsRunTo (set_modes g.rules.now) (rules_of g.rules.now) g.pairs.now js (candidates_of g) first new
    old left es tasks ending

-- an answer takes a try
abbrev pub TakesTry : ℕ → ℕ → EndingOf → Type 0
TakesTry old new (Found head outs) = new < old
TakesTry old new (Passed limit) = Unit {0}
TakesTry old new DepthSpent = Unit {0}
TakesTry old new Spent = Unit {0}
TakesTry old new Exhausted = Unit {0}
