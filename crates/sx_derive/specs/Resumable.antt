-- Searches that can be taken up again.
use Rattle.std.specs.Prelude.{
  ◌≡◌,
  ℕ,
  ◌+◌,
  ◌-◌,
  ◌^◌,
  ◌≤◌,
  ◌<◌,
  ◌⊎◌,
  List,
  [],
  ◌∷◌,
  map,
  length,
  min,
  Some,
  Result,
  Ok,
  Err,
}
use Rattle.sx_term.specs.Term.{tree}
use Rattle.sx_term.specs.declared.no_memory.NoMemory.{NoMemory}
use Rattle.sx_rules.specs.Rules.{Judgement, Rule, Hypotheses}
use Rattle.sx_rules.specs.Modes.{Modes}
use Rattle.sx_rules.specs.ProofView.{proof}
use Rattle.sx_arena.specs.Arena.{AreBelow}
use Rattle.sx_arena.specs.Pairs.{pairs_of, ArePairs}
use Rattle.sx_arena.specs.Places.{IsLimit}
use Rattle.sx_arena.specs.declared.pairs.Pair.{Pair}
use Rattle.sx_arena.specs.declared.places.Limit.{Limit}
use Rattle.sx_arena.specs.declared.places.Limit.TheVariants.{TooDeep as DeepTerm, TooBig as BigTerm}
use Rattle.sx_derive.specs.Candidates.{AreFacts}
use Rattle.sx_derive.specs.Chains.{HeadFits}
use Rattle.sx_derive.specs.Handing.{answer_in}
use Rattle.sx_derive.specs.Store.{IsStore, StoreGrows, store_trees, store_envs, store_kids}
use Rattle.sx_derive.specs.Tasks.{events_left, TasksFit}
use Rattle.sx_derive.specs.Walk.{
  Cause,
  depth_spent,
  too_deep,
  too_big,
  Event,
  try,
  give,
  stop,
  Answer,
  tries_then,
}
use Rattle.sx_derive.specs.declared.found.Found.{Found}
use Rattle.sx_derive.specs.declared.found.Found.TheVariants.{Next, Paused, Ended}
use Rattle.sx_derive.specs.declared.reach.Reached.{Reached}
use Rattle.sx_derive.specs.declared.search.Search.{Search}
use Rattle.sx_derive.specs.declared.search_error.SearchError.{SearchError}
use Rattle.sx_derive.specs.declared.search_error.SearchError.TheVariants.{
  Memory,
  DepthSpent as SpentDepth,
  TooDeep,
  TooBig,
}
use Rattle.sx_derive.specs.declared.state.State.{State}
use Rattle.sx_derive.specs.declared.state.State.TheVariants.{
  Open,
  Passed as AtLimit,
  DepthSpent as AtDepth,
  Failed,
}
use Rattle.sx_derive.specs.declared.store.Store.{Store}
use Rattle.sx_derive.specs.declared.tasks.Ending.{Ending as EndingOf}
use Rattle.sx_derive.specs.declared.tasks.Ending.TheVariants.{
  Found as IsFound,
  Passed,
  DepthSpent,
  Spent,
  Exhausted,
}
use Rattle.sx_derive.specs.declared.tasks.Task.{Task as TaskOf}
use Rattle.sx_rules.specs.Limits.{most_levels}

-- the events that a search in this state stands for, where the rest are those of its tasks
abbrev pub StandsBefore : State → List (Event Answer) → List (Event Answer) → Type 0
StandsBefore Open rest es = es ≡ rest
StandsBefore (AtLimit limit) rest es =
    (cause : Cause) × IsLimit (Some cause) (Some limit) × (es ≡ stop cause ∷ rest)
StandsBefore AtDepth rest es = es ≡ stop depth_spent ∷ rest
StandsBefore Failed rest es = ⊥

-- the search has the hypotheses by their numbers, and its tasks fit in its store
pub record IsSearchReady (modes : Modes) (rules : List Rule) (hyps : Hypotheses)
    (search : Search) : Type
    0 where
  pub store : IsStore modes rules search.store
  pub few : length search.facts.items < 2 ^ 32
  pub facts : AreFacts modes (store_trees search.store) hyps.judgements search.facts.items
  pub pairs : ArePairs (length (store_trees search.store)) search.pairs.items
  pub pairs_are : pairs_of (store_trees search.store) search.pairs.items ≡ hyps.pairs
  pub tasks : TasksFit modes rules search.store (length search.facts.items + length rules)
      search.tasks.items

-- the search stands for the events that are still to come, under the rules and the hypotheses
pub record StandsForEvents (modes : Modes) (rules : List Rule) (hyps : Hypotheses) (search : Search)
    (es : List (Event Answer)) : Type 0 where
  pub ready : IsSearchReady modes rules hyps search
  pub events : StandsBefore search.state
      (events_left modes rules search.pairs.items hyps.judgements search.store search.tasks.items)
      es

-- the search has answered that memory is lacking
abbrev pub HasFailed : Search → Type 0
HasFailed search = search.state ≡ Failed

-- the search stands for some events, or has answered that memory is lacking
abbrev pub CanGoOn : Modes → List Rule → Hypotheses → Search → Type 0
CanGoOn modes rules hyps search =
    ((es : List (Event Answer)) × StandsForEvents modes rules hyps search es) ⊎ HasFailed search

-- at most that many tries are taken from the events, and counted; the rest is left
pub record TakesTries (budget first last : ℕ) (es rest : List (Event Answer)) (n : ℕ) : Type 0 where
  pub within : n ≤ budget
  pub counted : last ≡ first + n
  pub events : es ≡ tries_then n rest

-- tries are taken up to this stop, and the search stands for the stop and the rest
abbrev pub StopsAt : Modes → List Rule → Hypotheses → ℕ → ℕ → ℕ → List (Event Answer) → Search →
    Cause → Type 0
StopsAt modes rules hyps budget first last es new cause =
    (n : ℕ) × (rest : List (Event Answer)) × TakesTries budget first last es (stop cause ∷ rest) n
    × StandsForEvents modes rules hyps new (stop cause ∷ rest)

-- what is answered of the events, and what the search stands for after it
abbrev pub IsNextOf : Modes → List Rule → Hypotheses → ℕ → ℕ → ℕ → List (Event Answer) → Search →
    Result Found SearchError → Type 0
IsNextOf modes rules hyps budget first last es new (Ok (Next d n)) =
    (rest : List (Event Answer))
    × TakesTries budget first last es (give (proof d.proof.value, map tree d.outputs.items)
    ∷ rest) n
    × StandsForEvents modes rules hyps new rest
IsNextOf modes rules hyps budget first last es new (Ok Paused) =
    (rest : List (Event Answer)) × TakesTries budget first last es (try ∷ rest) budget
    × StandsForEvents modes rules hyps new (try ∷ rest)
IsNextOf modes rules hyps budget first last es new (Ok Ended) =
    (n : ℕ) × TakesTries budget first last es [] n × StandsForEvents modes rules hyps new []
IsNextOf modes rules hyps budget first last es new (Err (SpentDepth d)) =
    (d ≡ most_levels) × StopsAt modes rules hyps budget first last es new depth_spent
IsNextOf modes rules hyps budget first last es new (Err (TooDeep k)) =
    (depth : ℕ) × (k ≡ min depth (2 ^ 64 - 1))
    × StopsAt modes rules hyps budget first last es new (too_deep depth)
IsNextOf modes rules hyps budget first last es new (Err (TooBig k)) =
    (size : ℕ) × (k ≡ min size (2 ^ 64 - 1))
    × StopsAt modes rules hyps budget first last es new (too_big size)
IsNextOf modes rules hyps budget first last es new (Err Memory) =
    (n : ℕ) × (rest : List (Event Answer)) × TakesTries budget first last es rest n × (0 < n)
    × HasFailed new

-- the error of a limit
abbrev pub IsErrorOf : Limit → SearchError → Type 0
IsErrorOf (DeepTerm k) e = e ≡ TooDeep k
IsErrorOf (BigTerm k) e = e ≡ TooBig k

-- what is met after the tries, by its numbers
abbrev pub IsReachedAt : Modes → List Rule → List Pair → List Judgement → Store → List TaskOf → ℕ →
    ℕ → ℕ → List (Event Answer) → ℕ → EndingOf → Type 0
IsReachedAt modes rules pairs js s tasks budget first last es n (IsFound head outs) =
    (0 < n) × HeadFits (length (store_envs s)) (length (store_kids s)) head
    × AreBelow (length (store_trees s)) outs.items
    × TakesTries budget first last es (give (answer_in s head outs.items)
    ∷ events_left modes rules pairs js s tasks) n
IsReachedAt modes rules pairs js s tasks budget first last es n (Passed limit) =
    (cause : Cause) × IsLimit (Some cause) (Some limit)
    × TakesTries budget first last es (stop cause ∷ events_left modes rules pairs js s tasks) n
IsReachedAt modes rules pairs js s tasks budget first last es n DepthSpent =
    TakesTries budget first last es (stop depth_spent ∷ events_left modes rules pairs js s tasks) n
IsReachedAt modes rules pairs js s tasks budget first last es n Spent =
    (n ≡ budget) × TakesTries budget first last es (events_left modes rules pairs js s tasks) n
    × ((more : List (Event Answer)) × (events_left modes rules pairs js s tasks ≡ try ∷ more))
IsReachedAt modes rules pairs js s tasks budget first last es n Exhausted =
    TakesTries budget first last es (events_left modes rules pairs js s tasks) n
    × (events_left modes rules pairs js s tasks ≡ [])

-- the store goes on and the tasks that are left fit in it; without memory some tries were made
abbrev pub IsReached : Modes → List Rule → List Pair → List Judgement → ℕ → Store → Store →
    List TaskOf → ℕ → ℕ → ℕ → List (Event Answer) → Result Reached NoMemory → Type 0
IsReached modes rules pairs js candidates old new tasks budget first last es (Ok r) =
    StoreGrows modes rules old new × TasksFit modes rules new candidates tasks
    × IsReachedAt modes rules pairs js new tasks budget first last es r.tries r.ending
IsReached modes rules pairs js candidates old new tasks budget first last es (Err e) =
    (n : ℕ) × (rest : List (Event Answer)) × TakesTries budget first last es rest n × (0 < n)

-- after that many tries that come to nothing, the tasks are left whose last one has a candidate,
-- where there is one
pub record AreTasksSettled (modes : Modes) (rules : List Rule) (pairs : List Pair)
    (js : List Judgement)
    (s : Store) (candidates n : ℕ) (old new : List TaskOf) : Type 0 where
  pub same : events_left modes rules pairs js s old
      ≡ tries_then n (events_left modes rules pairs js s new)
  pub fits : TasksFit modes rules s candidates new

-- where the next event is a stop, or none is left, a call answers so and makes no try
pub record StopsStay (modes : Modes) (rules : List Rule) (hyps : Hypotheses) (budget first last : ℕ)
    (new : Search) (result : Result Found SearchError) : Type 0 where
  pub depth : (rest : List (Event Answer)) →
      IsNextOf modes rules hyps budget first last (stop depth_spent ∷ rest) new result →
      (result ≡ Err (SpentDepth most_levels)) × (last ≡ first)
  pub deep : (n : ℕ) (rest : List (Event Answer)) →
      IsNextOf modes rules hyps budget first last (stop (too_deep n) ∷ rest) new result →
      (result ≡ Err (TooDeep (min n (2 ^ 64 - 1)))) × (last ≡ first)
  pub big : (n : ℕ) (rest : List (Event Answer)) →
      IsNextOf modes rules hyps budget first last (stop (too_big n) ∷ rest) new result →
      (result ≡ Err (TooBig (min n (2 ^ 64 - 1)))) × (last ≡ first)
  pub ended : IsNextOf modes rules hyps budget first last [] new result → (result ≡ Ok Ended)
      × (last ≡ first)

-- whatever the rules and the hypotheses, a search that met a stop or the end stays there
abbrev pub SearchesStayStopped : Type 0
SearchesStayStopped =
    (modes : Modes) (rules : List Rule) (hyps : Hypotheses) (budget first last : ℕ) (new : Search)
    (result : Result Found SearchError) → StopsStay modes rules hyps budget first last new result
