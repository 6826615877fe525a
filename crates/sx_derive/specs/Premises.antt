-- What comes of a rule's premises.
use Rattle.std.specs.Prelude.{◌≡◌, ℕ, List}
use Rattle.sx_rules.specs.Rules.{Judgement, Premise, Rule}
use Rattle.sx_rules.specs.Modes.{Modes}
use Rattle.sx_derive.specs.Walk.{Answer}
use Rattle.sx_derive.specs.Machine.{Result, premises_result}
use Rattle.sx_arena.specs.declared.pairs.Pair.{Pair}
use Rattle.sx_derive.specs.declared.store.Store.{Store}
use Rattle.sx_derive.specs.declared.step.Step.{Step}
use Rattle.sx_arena.specs.Binds.{env_at}
use Rattle.sx_derive.specs.Chains.{kids_at, frames_at}
use Rattle.sx_arena.specs.Pairs.{pairs_of}
use Rattle.sx_derive.specs.Store.{StoreGrows, store_trees, store_envs, store_kids, store_frames}
use Rattle.sx_derive.specs.Step.{IsSearchStep}

-- the result of the premises, by the store before them
abbrev pub result_of : Modes → List Rule → List Pair → Store → ℕ → Rule → ℕ → ℕ → ℕ → ℕ →
    List Judgement → (Answer → Result) → List Premise → Result
result_of modes rules pairs s number rule levels env kids frames js next ps =
    premises_result modes (record { judgements = js; pairs = pairs_of (store_trees s) pairs })
    number rule levels (frames_at (store_frames modes rules s) frames) next ps
    (env_at (store_envs s) env) (kids_at (store_kids s) kids)

-- the store goes on, and the step is the result of the premises
pub record IsPremises (modes : Modes) (rules : List Rule) (pairs : List Pair) (old new : Store)
    (number : ℕ) (rule : Rule) (levels env kids frames : ℕ) (ps : List Premise) (step : Step) : Type
    0 where
  pub grows : StoreGrows modes rules old new
  pub is : (js : List Judgement) (next : Answer → Result) →
      IsSearchStep modes rules js new next step
      (result_of modes rules pairs old number rule levels env kids frames js next ps)

-- the premises before the number k hold
pub record ArePassed (modes : Modes) (rules : List Rule) (pairs : List Pair) (old mid : Store)
    (number : ℕ) (rule : Rule) (levels env kids frames : ℕ) (ps rest : List Premise) : Type 0 where
  pub grows : StoreGrows modes rules old mid
  pub same : (js : List Judgement) (next : Answer → Result) →
      result_of modes rules pairs old number rule levels env kids frames js next ps
      ≡ result_of modes rules pairs old number rule levels env kids frames js next rest
