-- What a turn of a walk makes of the tasks, and what a walk answers.
use Rattle.std.specs.Prelude.{◌≡◌, ℕ, ◌<◌, ◌≤◌, List, [], ◌∷◌, ◌++◌, length, take, drop}
use Rattle.std.specs.Prelude.{Option, Some, None}
use Rattle.sx_rules.specs.Rules.{Judgement, Rule}
use Rattle.sx_rules.specs.Modes.{Modes}
use Rattle.sx_arena.specs.declared.pairs.Pair.{Pair}
use Rattle.sx_derive.specs.declared.store.Store.{Store}
use Rattle.sx_derive.specs.declared.tasks.Task.{Task as TaskOf}
use Rattle.sx_derive.specs.declared.tasks.Ending.{Ending as EndingOf}
use Rattle.sx_derive.specs.declared.tasks.Ending.TheVariants.{
  Found,
  Passed,
  DepthSpent,
  Spent,
  Exhausted,
}
use Rattle.sx_derive.specs.Walk.{Cause, depth_spent, Event, try, give, stop, Answer, tries_then}
use Rattle.sx_arena.specs.Arena.{AreBelow}
use Rattle.sx_arena.specs.Places.{IsLimit}
use Rattle.sx_derive.specs.Chains.{HeadFits}
use Rattle.sx_derive.specs.Handing.{answer_in}
use Rattle.sx_derive.specs.Store.{StoreGrows, IsMark, store_trees, store_envs, store_kids}
use Rattle.sx_derive.specs.Tasks.{events_left, TaskFits, TasksFit, Piled}

-- others come behind the tasks, of which this holds
abbrev pub PutsBehind : List TaskOf → List TaskOf → (List TaskOf → Type 0) → Type 0
PutsBehind old new Holds = (more : List TaskOf) × (new ≡ old ++ more) × Holds more

-- those below the base are as before
pub record AreKeptBelow (base : ℕ) (old new : List TaskOf) : Type 0 where
  pub reaches : base ≤ length new
  pub below : take base new ≡ take base old

-- the last task above the base, which is taken off, where one is
abbrev pub IsPoppedAbove : ℕ → List TaskOf → List TaskOf → Option TaskOf → Type 0
IsPoppedAbove base old new None = (drop base old ≡ []) × (drop base new ≡ [])
IsPoppedAbove base old new (Some t) = drop base old ≡ drop base new ++ t ∷ []

-- after that many tries that come to nothing, the last task that has a candidate left, and those
-- before it; or none has one
abbrev pub IsTaskPopped : Modes → List Rule → List Pair → List Judgement → Store → ℕ → ℕ →
    List TaskOf → List TaskOf → Option TaskOf → Type 0
IsTaskPopped modes rules pairs js s candidates n old new None =
    (events_left modes rules pairs js s old ≡ tries_then n []) × (new ≡ [])
IsTaskPopped modes rules pairs js s candidates n old new (Some t) =
    (t.next < candidates)
    × (events_left modes rules pairs js s old
    ≡ tries_then n (events_left modes rules pairs js s (new ++ t ∷ [])))
    × TasksFit modes rules s candidates (new ++ t ∷ [])
    × ((first : Store) → Piled modes rules candidates first old s →
    Piled modes rules candidates first (new ++ t ∷ []) s)

-- what is met after a try: nothing, an answer or a stop; and then the rest of the events
abbrev pub IsMetAfterTry : Store → Option EndingOf → List (Event Answer) →
    List (Event Answer) → Type 0
IsMetAfterTry s None es rest = es ≡ rest
IsMetAfterTry s (Some (Found head outs)) es rest =
    HeadFits (length (store_envs s)) (length (store_kids s)) head
    × AreBelow (length (store_trees s)) outs.items
    × (es ≡ give (answer_in s head outs.items) ∷ rest)
IsMetAfterTry s (Some (Passed limit)) es rest =
    (cause : Cause) × IsLimit (Some cause) (Some limit) × (es ≡ stop cause ∷ rest)
IsMetAfterTry s (Some DepthSpent) es rest = es ≡ stop depth_spent ∷ rest
IsMetAfterTry s (Some Spent) es rest = ⊥
IsMetAfterTry s (Some Exhausted) es rest = ⊥

-- after a try of the task the walk goes on with the tasks that are left, or something ends it
pub record IsTaskTurn (modes : Modes) (rules : List Rule) (pairs : List Pair) (js : List Judgement)
    (candidates : ℕ) (old new : Store) (t : TaskOf)
    (tasks left_over : List TaskOf) (o : Option EndingOf) : Type 0 where
  pub grows : StoreGrows modes rules old new
  pub fits : TasksFit modes rules new candidates left_over
  pub piled : (first c : Store) → Piled modes rules candidates first tasks c → IsMark c t.mark →
      TaskFits modes rules c candidates t → StoreGrows modes rules c old →
      Piled modes rules candidates first left_over new
  pub meets : (es : List (Event Answer))
      × (events_left modes rules pairs js old (tasks ++ t ∷ []) ≡ try ∷ es)
      × IsMetAfterTry new o es (events_left modes rules pairs js new left_over)
