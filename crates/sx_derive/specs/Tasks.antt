-- Tasks by their numbers, what a try makes of them, and how a walk ends.
use Rattle.std.specs.Prelude.{
  ◌≡◌,
  ℕ,
  suc,
  ◌-◌,
  ◌≤◌,
  Bool,
  true,
  false,
  List,
  [],
  ◌∷◌,
  ◌++◌,
  map,
  drop,
  length,
  nat_lt,
  Option,
  Some,
  None,
  Vec,
}
use Rattle.std.specs.declared.alloc.Global.{Global}
use Rattle.sx_term.specs.Tree.{Tree}
use Rattle.sx_rules.specs.Rules.{Judgement, Rule}
use Rattle.sx_rules.specs.Modes.{Modes, Goal}
use Rattle.sx_derive.specs.Walk.{Cause, depth_spent, Event, try, Answer}
use Rattle.sx_derive.specs.Search.{Ending, found, stopped, spent, exhausted}
use Rattle.sx_derive.specs.Machine.{
  Frame,
  Task,
  hypotheses_from,
  rules_from,
  Result,
  answers,
  tasks_events,
  result_events,
}
use Rattle.sx_arena.specs.declared.pairs.Pair.{Pair}
use Rattle.sx_derive.specs.declared.step.Step.{Step}
use Rattle.sx_derive.specs.declared.store.Store.{Store}
use Rattle.sx_derive.specs.declared.tasks.Task.{Task as TaskOf}
use Rattle.sx_derive.specs.declared.tasks.Ending.{Ending as EndingOf}
use Rattle.sx_derive.specs.declared.tasks.Ending.TheVariants.{
  Found,
  Passed,
  DepthSpent,
  Spent,
  Exhausted,
}
use Rattle.sx_arena.specs.Arena.{tree_at, AreBelow}
use Rattle.sx_derive.specs.Candidates.{goal_in}
use Rattle.sx_derive.specs.Chains.{HeadFits}
use Rattle.sx_derive.specs.Handing.{hyps_in, answer_in, frames_in}
use Rattle.sx_arena.specs.Places.{IsLimit}
use Rattle.sx_derive.specs.Step.{IsSearchStep}
use Rattle.sx_derive.specs.Store.{StoreGrows, IsMark, store_trees, store_envs, store_kids}

-- the candidates from a number on: the hypotheses, and then the rules
abbrev pub task_when : Bool → ℕ → List Judgement → List Rule → ℕ → Goal → List Frame → Task
task_when true next js rules levels goal frames =
    hypotheses_from next (drop next js) levels goal frames
task_when false next js rules levels goal frames =
    rules_from (next - length js) (drop (next - length js) rules) levels goal frames

-- the task that begins with the candidate of that number
abbrev pub task_from : ℕ → List Judgement → List Rule → ℕ → Goal → List Frame → Task
task_from next js rules levels goal frames =
    task_when (nat_lt next (length js)) next js rules levels goal frames

-- a task by its numbers
abbrev pub task_in : Modes → List Rule → List Judgement → Store → TaskOf → Task
task_in modes rules js s t =
    task_from t.next js rules t.levels (goal_in s t.form t.terms.items)
    (frames_in modes rules s t.frames)

-- the tasks of a stack, the last first, before others
abbrev pub stacked : Modes → List Rule → List Judgement → Store → List TaskOf → List Task →
    List Task
stacked modes rules js s [] ts = ts
stacked modes rules js s (t ∷ more) ts =
    stacked modes rules js s more (task_in modes rules js s t ∷ ts)

-- the events that are left of a stack
abbrev pub events_left : Modes → List Rule → List Pair → List Judgement → Store → List TaskOf →
    List (Event Answer)
events_left modes rules pairs js s tasks =
    tasks_events modes rules (hyps_in pairs s js) (stacked modes rules js s tasks [])

-- the task may stand in the store, with that many candidates
pub record TaskFits (modes : Modes) (rules : List Rule) (s : Store) (candidates : ℕ)
    (t : TaskOf) : Type 0 where
  pub next : t.next ≤ candidates
  pub terms : AreBelow (length (store_trees s)) t.terms.items
  pub frames : t.frames ≤ length s.frames.items
  pub until : s.until ≤ t.frames

-- each task may stand in the store
abbrev pub TasksFit : Modes → List Rule → Store → ℕ → List TaskOf → Type 0
TasksFit modes rules s candidates [] = Unit {0}
TasksFit modes rules s candidates (t ∷ ts) =
    TaskFits modes rules s candidates t × TasksFit modes rules s candidates ts

-- each task may stand in the store that there was when it was made, from which those of the later
-- tasks and the store of now go on
abbrev pub Piled : Modes → List Rule → ℕ → Store → List TaskOf → Store → Type 0
Piled modes rules candidates first [] s = StoreGrows modes rules first s
Piled modes rules candidates first (t ∷ ts) s =
    (c : Store) × (StoreGrows modes rules first c × IsMark c t.mark ×
    TaskFits modes rules c candidates t
    × Piled modes rules candidates c ts s)

-- what comes of the next candidate is a result, with whose events the try of the task goes on
pub record IsNextCandidate (modes : Modes) (rules : List Rule) (pairs : List Pair)
    (js : List Judgement)
    (old new : Store) (t : TaskOf) (step : Step) : Type 0 where
  pub grows : StoreGrows modes rules old new
  pub result : Result
  pub is : IsSearchStep modes rules js new answers step result
  pub events : (ts : List Task) →
      tasks_events modes rules (hyps_in pairs old js) (task_in modes rules js old t ∷ ts)
      ≡ try ∷ (result_events modes rules (hyps_in pairs old js) result
      ++ tasks_events modes rules (hyps_in pairs old js)
      (task_from (suc t.next) js rules t.levels (goal_in old t.form t.terms.items)
      (frames_in modes rules old t.frames) ∷ ts))

-- the outputs that are wanted, where some are
abbrev pub wanted_at : List Tree → Option (Vec ℕ Global) → Option (List Tree)
wanted_at ts None = None
wanted_at ts (Some outs) = Some (map (tree_at ts) outs.items)

-- the wanted outputs in a store
abbrev pub wanted_in : Store → Option (Vec ℕ Global) → Option (List Tree)
wanted_in s wanted = wanted_at (store_trees s) wanted

-- the wanted outputs are terms that are there
abbrev pub WantedBelow : ℕ → Option (Vec ℕ Global) → Type 0
WantedBelow n None = Unit {0}
WantedBelow n (Some outs) = AreBelow n outs.items

-- the ending by its numbers
abbrev pub IsEnding : Store → EndingOf → Ending → Type 0
IsEnding s (Found head outs) e =
    HeadFits (length (store_envs s)) (length (store_kids s)) head
    × AreBelow (length (store_trees s)) outs.items × (e ≡ found (answer_in s head outs.items))
IsEnding s (Passed limit) e =
    (cause : Cause) × IsLimit (Some cause) (Some limit) × (e ≡ stopped cause)
IsEnding s DepthSpent e = e ≡ stopped depth_spent
IsEnding s Spent e = e ≡ spent
IsEnding s Exhausted e = e ≡ exhausted
