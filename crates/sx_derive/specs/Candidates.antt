-- Hypotheses by their numbers, and what comes of a candidate.
use Rattle.std.specs.Prelude.{ℕ, List, map}
use Rattle.sx_rules.specs.Rules.{Judgement, Rule, Hypotheses}
use Rattle.sx_rules.specs.Modes.{Modes, Goal}
use Rattle.sx_derive.specs.Machine.{Result, answers}
use Rattle.sx_arena.specs.declared.pairs.Pair.{Pair}
use Rattle.sx_derive.specs.declared.step.Step.{Step}
use Rattle.sx_derive.specs.declared.store.Store.{Store}
use Rattle.sx_arena.specs.Arena.{tree_at}
use Rattle.sx_derive.specs.Handing.{hyps_in}
use Rattle.sx_derive.specs.Store.{StoreGrows, store_trees}
use Rattle.sx_derive.specs.Step.{IsSearchStep}
pub use Rattle.sx_arena.specs.Facts.{IsFact, AreFacts}

-- a goal by its numbers
abbrev pub goal_in : Store → ℕ → List ℕ → Goal
goal_in s form terms = record { form = form; terms = map (tree_at (store_trees s)) terms }

-- what comes of a candidate is what the machine says, by the store before it
pub record IsCandidateTried (modes : Modes) (rules : List Rule) (pairs : List Pair)
    (old new : Store)
    (result : Hypotheses → Result) (step : Step) : Type 0 where
  pub grows : StoreGrows modes rules old new
  pub is : (js : List Judgement) →
      IsSearchStep modes rules js new answers step (result (hyps_in pairs old js))
