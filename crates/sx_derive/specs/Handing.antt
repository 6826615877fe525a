-- What comes of an answer that is handed to the frames that wait for it.
use Rattle.std.specs.Prelude.{ℕ, List, map}
use Rattle.sx_rules.specs.Rules.{Judgement, Rule, Hypotheses}
use Rattle.sx_rules.specs.Modes.{Modes}
use Rattle.sx_derive.specs.Walk.{Answer}
use Rattle.sx_derive.specs.Machine.{Frame, answers, hand_on}
use Rattle.sx_derive.specs.declared.chains.Head.{Head}
use Rattle.sx_derive.specs.declared.chains.Waiting.{Waiting}
use Rattle.sx_arena.specs.declared.pairs.Pair.{Pair}
use Rattle.sx_derive.specs.declared.step.Step.{Step}
use Rattle.sx_derive.specs.declared.store.Store.{Store}
use Rattle.sx_arena.specs.Arena.{tree_at}
use Rattle.sx_derive.specs.Chains.{head_proof, frames_at, waiting_chain, WaitingFits}
use Rattle.sx_arena.specs.Pairs.{pairs_of}
use Rattle.sx_derive.specs.Store.{StoreGrows, store_trees, store_envs, store_kids, store_frames}
use Rattle.sx_derive.specs.Step.{IsSearchStep}

-- the hypotheses, with the pairs by their numbers
abbrev pub hyps_in : List Pair → Store → List Judgement → Hypotheses
hyps_in pairs s js = record { judgements = js; pairs = pairs_of (store_trees s) pairs }

-- an answer by its numbers
abbrev pub answer_in : Store → Head → List ℕ → Answer
answer_in s head outs =
    (head_proof (store_envs s) (store_kids s) head, map (tree_at (store_trees s)) outs)

-- the frames of a chain
abbrev pub frames_in : Modes → List Rule → Store → ℕ → List Frame
frames_in modes rules s i = frames_at (store_frames modes rules s) i

-- the frame of a cell, and those behind it
abbrev pub waiting_in : Modes → List Rule → Store → Waiting → List Frame
waiting_in modes rules s c =
    waiting_chain modes rules (store_envs s) (store_kids s) (store_frames modes rules s) c

-- the cell may stand in the store
abbrev pub IsWaitingCell : Modes → List Rule → Store → Waiting → Type 0
IsWaitingCell modes rules s c =
    WaitingFits rules s.until (store_envs s) (store_kids s) (store_frames modes rules s) c

-- what comes of the answer at the frame of the cell, where the frames behind it say what becomes of
-- the next
pub record IsResumed (modes : Modes) (rules : List Rule) (pairs : List Pair) (old new : Store)
    (c : Waiting) (head : Head) (outs : List ℕ) (step : Step) : Type 0 where
  pub grows : StoreGrows modes rules old new
  pub is : (js : List Judgement) →
      IsSearchStep modes rules js new
      (hand_on modes (hyps_in pairs old js) (frames_in modes rules old c.before)) step
      (hand_on modes (hyps_in pairs old js) (waiting_in modes rules old c)
      (answer_in old head outs))

-- what comes of the answer at the frames of the chain
pub record IsHanded (modes : Modes) (rules : List Rule) (pairs : List Pair) (old new : Store)
    (frames : ℕ) (head : Head) (outs : List ℕ) (step : Step) : Type 0 where
  pub grows : StoreGrows modes rules old new
  pub is : (js : List Judgement) →
      IsSearchStep modes rules js new answers step
      (hand_on modes (hyps_in pairs old js) (frames_in modes rules old frames)
      (answer_in old head outs))
