-- What the checker keeps, as plain data, and how it grows.
use Rattle.std.specs.Prelude.{◌≡◌, ℕ, ◌+◌, ◌<◌, ◌≤◌, Bool, List, [], ◌∷◌, map, take, drop, length}
use Rattle.std.specs.Prelude.{get_or, slice_get, Option, Some, None}
use Rattle.sx_term.specs.Tree.{Tree}
use Rattle.sx_rules.specs.Instances.{instance}
use Rattle.sx_rules.specs.Rules.{Judgement, Premise, holds, apart, Rule, Hypotheses}
use Rattle.sx_rules.specs.Modes.{Modes, outputs_of, Goal}
use Rattle.sx_arena.specs.Matching.{Assignment, filled}
use Rattle.sx_arena.specs.declared.binds.Bind.{Bind}
use Rattle.sx_arena.specs.declared.pairs.Pair.{Pair}
use Rattle.sx_arena.specs.Grown.{Extends}
use Rattle.sx_arena.specs.Arena.{trees, tree_at, IsArena, AreBelow}
use Rattle.sx_arena.specs.Binds.{envs, env_at, IsBinds}
use Rattle.sx_arena.specs.Places.{selected, AreHeld}
use Rattle.sx_arena.specs.Pairs.{pairs_of}
use Rattle.sx_replay.specs.declared.reader.Waiting.{Waiting}
use Rattle.sx_replay.specs.declared.reader.Reader.{Reader}
use Rattle.sx_replay.specs.declared.noted.Noted.{Noted}
use Rattle.sx_replay.specs.declared.step.Step.{Step}
use Rattle.sx_replay.specs.declared.step.Step.TheVariants.{Clash, Done, Asks}
use Rattle.sx_replay.specs.Limits.{note}
use Rattle.sx_replay.specs.Machine.{ReplayFrame, Move, clash, ends, asks, premises_move, hand_on}

-- the terms and the assignments by their numbers
abbrev pub reader_trees : Reader → List Tree
reader_trees r = trees r.arena

abbrev pub reader_envs : Reader → List Assignment
reader_envs r = envs (trees r.arena) r.binds

-- the terms of the problem, which stay to the end
abbrev pub base_trees : Reader → List Tree
base_trees r = take r.base (trees r.arena)

-- the frame that a waiting rule stands for
abbrev pub replay_patterns : Modes → Option Premise → List Tree
replay_patterns modes None = []
replay_patterns modes (Some (holds j)) = outputs_of modes j
replay_patterns modes (Some (apart t u)) = []

abbrev pub no_replay_rule : Rule
no_replay_rule = record { sorts = []; premises = []; conclusion = record { form = 0; places = [] } }

abbrev pub replay_frame_at : Modes → List Assignment → Rule → Waiting → ReplayFrame
replay_frame_at modes es rule c = record {
  rule = rule;
  rest = drop (c.premise + 1) rule.premises;
  patterns = replay_patterns modes (slice_get rule.premises c.premise);
  env = env_at es c.env;
}

abbrev pub replay_frame_of : Modes → List Rule → List Assignment → Waiting → ReplayFrame
replay_frame_of modes rules es c = replay_frame_at modes es (get_or rules c.rule no_replay_rule) c

-- the frames of the waiting rules, the last rule's first
abbrev pub stack_on : Modes → List Rule → List Assignment → List ReplayFrame → List Waiting →
    List ReplayFrame
stack_on modes rules es fs [] = fs
stack_on modes rules es fs (c ∷ cs) = stack_on modes rules es
    (replay_frame_of modes rules es c ∷ fs) cs

abbrev pub stack : Modes → List Rule → Reader → List ReplayFrame
stack modes rules r = stack_on modes rules (reader_envs r) [] r.waiting.items

-- the rule is there, and waits at a judgement premise, with bindings that were there when it began
-- to wait
pub record WaitsInReader (rules : List Rule) (n : ℕ) (c : Waiting) : Type 0 where
  pub rule : Rule
  pub judgement : Judgement
  pub found : slice_get rules c.rule ≡ Some rule
  pub premise : slice_get rule.premises c.premise ≡ Some (holds judgement)
  pub env : c.env ≤ c.mark
  pub mark : c.mark ≤ n

-- the rules began to wait with no fewer bindings
abbrev pub AreLater : ℕ → List Waiting → Type 0
AreLater m [] = Unit {0}
AreLater m (c ∷ cs) = (m ≤ c.mark) × AreLater m cs

abbrev pub AreWaiting : List Rule → ℕ → List Waiting → Type 0
AreWaiting rules n [] = Unit {0}
AreWaiting rules n (c ∷ cs) = WaitsInReader rules n c × (AreLater c.mark cs × AreWaiting rules n cs)

-- the bindings are to the first terms, so many
abbrev pub AreTo : ℕ → List Bind → Type 0
AreTo n [] = Unit {0}
AreTo n (b ∷ bs) = (b.term < n) × AreTo n bs

-- where each rule began to wait the terms of the problem were there, and the bindings were to terms
-- that were there
abbrev pub AreKept : ℕ → List Bind → List Waiting → Type 0
AreKept base bs [] = Unit {0}
AreKept base bs (c ∷ cs) = ((base ≤ c.terms) × AreTo c.terms (take c.mark bs)) × AreKept base bs cs

pub record IsReplayReader (rules : List Rule) (r : Reader) : Type 0 where
  pub arena : IsArena r.arena
  pub binds : IsBinds (trees r.arena) r.binds
  pub waiting : AreWaiting rules (length r.binds.cells.items) r.waiting.items
  pub base : r.base ≤ length (trees r.arena)
  pub kept : AreKept r.base r.binds.cells.items r.waiting.items

-- what was named before stands for the same
pub record NamesStay (rules : List Rule) (old new : Reader) : Type 0 where
  pub reader : IsReplayReader rules new
  pub base : new.base ≡ old.base
  pub trees : Extends (reader_trees old) (reader_trees new)
  pub envs : Extends (reader_envs old) (reader_envs new)

-- the terms of the problem stay, and all that with which rules wait
pub record ReplayGoesOn (rules : List Rule) (old new : Reader) : Type 0 where
  pub reader : IsReplayReader rules new
  pub base : new.base ≡ old.base
  pub trees : base_trees new ≡ base_trees old

-- the outputs of a judgement, or else its inputs, under bindings
abbrev pub places_made : Modes → Bool → Assignment → Judgement → List Tree
places_made modes outputs env j = selected outputs (modes j.form)
    (map (instance (filled env)) j.places)

-- the terms are made and noted, and nothing else changes
pub record AreTermsMade (old new : Reader) (ts : List Tree) (is : List ℕ) : Type 0 where
  pub held : AreHeld old.arena new.arena is ts
  pub binds : new.binds ≡ old.binds
  pub waiting : new.waiting ≡ old.waiting
  pub base : new.base ≡ old.base
  pub noted : new.noted ≡ note old.noted ts

-- the hypotheses, with the pairs by their numbers
abbrev pub replay_hypotheses : List Pair → Reader → List Judgement → Hypotheses
replay_hypotheses pairs r js = record { judgements = js; pairs = pairs_of (reader_trees r) pairs }

-- a goal by its numbers
abbrev pub replay_goal : Reader → ℕ → List ℕ → Goal
replay_goal r form terms = record { form = form; terms = map (tree_at (reader_trees r)) terms }

-- the step stands for the move, where next says what becomes of outputs; with outputs the rules
-- that wait are those before
abbrev pub IsReplayStep : Modes → List Rule → List Waiting → Reader → (List Tree → Noted → Move) →
    Step →
    Move → Type 0
IsReplayStep modes rules cs r next Clash m = m ≡ clash
IsReplayStep modes rules cs r next (Done outs) m =
    AreBelow (length (reader_trees r)) outs.items × (r.waiting.items ≡ cs) ×
    (m ≡ next (map (tree_at (reader_trees r)) outs.items) r.noted)
IsReplayStep modes rules cs r next (Asks form terms) m =
    AreBelow (length (reader_trees r)) terms.items ×
    (m ≡ asks (replay_goal r form terms.items) (stack modes rules r) r.noted)

-- what comes of the premises
pub record IsReplayPremises (modes : Modes) (rules : List Rule) (pairs : List Pair)
    (old new : Reader)
    (rule : Rule) (env : ℕ) (ps : List Premise) (step : Step) : Type 0 where
  pub grows : NamesStay rules old new
  pub is : (js : List Judgement) (next : List Tree → Noted → Move) →
      IsReplayStep modes rules old.waiting.items new next step
      (premises_move modes (replay_hypotheses pairs old js) next (stack modes rules old) rule ps
      (env_at (reader_envs old) env) old.noted)

-- what comes of the outputs at a rule that waits for them
pub record IsReplayResumed (modes : Modes) (rules : List Rule) (pairs : List Pair)
    (old new : Reader)
    (c : Waiting) (outs : List ℕ) (step : Step) : Type 0 where
  pub grows : NamesStay rules old new
  pub is : (js : List Judgement) →
      IsReplayStep modes rules old.waiting.items new
      (hand_on modes (replay_hypotheses pairs old js) (stack modes rules old)) step
      (hand_on modes (replay_hypotheses pairs old js)
      (replay_frame_of modes rules (reader_envs old) c ∷
      stack modes rules old) (map (tree_at (reader_trees old)) outs) old.noted)

-- what comes of a candidate, or of outputs handed on, is the machine's move
pub record IsMoved (modes : Modes) (rules : List Rule) (pairs : List Pair) (old new : Reader)
    (move : Hypotheses → Move) (step : Step) : Type 0 where
  pub grows : ReplayGoesOn rules old new
  pub is : (js : List Judgement) → IsReplayStep modes rules [] new ends step (move
      (replay_hypotheses pairs old js))
