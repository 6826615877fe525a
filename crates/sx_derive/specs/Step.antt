-- What a step of the code stands for.
use Rattle.std.specs.Prelude.{◌≡◌, ℕ, ◌≤◌, List, ◌∷◌, map, length, drop, slice_get, ◌+◌, Some}
use Rattle.sx_term.specs.Tree.{Tree}
use Rattle.sx_rules.specs.Rules.{Judgement, holds, Rule, Hypotheses, judgement_instance}
use Rattle.sx_rules.specs.Modes.{Modes, inputs_of, outputs_of, goal_of}
use Rattle.sx_rules.specs.Derivations.{Proofs, by}
use Rattle.sx_derive.specs.Walk.{Cause, depth_spent, Answer, limit_passed, first_values}
use Rattle.sx_derive.specs.Machine.{
  Frame,
  goal_result,
  Result,
  nothing,
  stops,
  goes_on,
  hypotheses_from,
  result_unless,
}
use Rattle.sx_arena.specs.Matching.{Assignment, filled}
use Rattle.sx_derive.specs.declared.chains.Waiting.{Waiting}
use Rattle.sx_arena.specs.Binds.{env_at}
use Rattle.sx_derive.specs.Chains.{kids_at}
use Rattle.sx_derive.specs.declared.store.Store.{Store}
use Rattle.sx_derive.specs.declared.step.Step.{Step}
use Rattle.sx_derive.specs.declared.step.Step.TheVariants.{Nothing, Passed, DepthSpent, Done, Goes}
use Rattle.sx_arena.specs.Arena.{tree_at, AreBelow}
use Rattle.sx_arena.specs.Places.{IsLimit}
use Rattle.sx_derive.specs.Chains.{HeadFits, head_proof, frames_at}
use Rattle.sx_derive.specs.Store.{StoreGrows, store_trees, store_envs, store_kids, store_frames}

-- the step stands for the result, where next says what becomes of an answer
abbrev pub IsSearchStep : Modes → List Rule → List Judgement → Store → (Answer → Result) → Step →
    Result →
    Type 0
IsSearchStep modes rules js s next Nothing r = r ≡ nothing
IsSearchStep modes rules js s next (Passed limit) r =
    (cause : Cause) × IsLimit (Some cause) (Some limit) × (r ≡ stops cause)
IsSearchStep modes rules js s next DepthSpent r = r ≡ stops depth_spent
IsSearchStep modes rules js s next (Done head outputs) r =
    HeadFits (length (store_envs s)) (length (store_kids s)) head
    × AreBelow (length (store_trees s)) outputs.items
    × (r ≡ next (
      head_proof (store_envs s) (store_kids s) head,
      map (tree_at (store_trees s))
          outputs.items,
    ))
IsSearchStep modes rules js s next (Goes form terms levels frames) r =
    AreBelow (length (store_trees s)) terms.items × (frames ≤ length (store_frames modes rules s))
    × (s.until ≤ frames) × (r ≡ goes_on
    (hypotheses_from 0 js levels
    (record { form = form; terms = map (tree_at (store_trees s)) terms.items })
    (frames_at (store_frames modes rules s) frames)))

-- the answer of a rule under a substitution, with proofs of its premises
abbrev pub concluded_result : Modes → ℕ → Rule → (ℕ → Tree) → Proofs → (Answer → Result) → Result
concluded_result modes number rule s kids next =
    result_unless (limit_passed (outputs_of modes (judgement_instance s rule.conclusion)))
    (next (
      by number (first_values (length rule.sorts) s) kids,
      outputs_of modes
          (judgement_instance s rule.conclusion),
    ))

-- the store goes on, and the step is the answer of the rule, or a stop
pub record IsConcluded (modes : Modes) (rules : List Rule) (old new : Store) (number : ℕ)
    (rule : Rule) (s : ℕ → Tree) (kids : Proofs) (step : Step) : Type 0 where
  pub grows : StoreGrows modes rules old new
  pub is : (js : List Judgement) (next : Answer → Result) →
      IsSearchStep modes rules js new next step (concluded_result modes number rule s kids next)

-- the rule of the cell is there, and the premise is the judgement
pub record Awaits (rules : List Rule) (j : Judgement) (c : Waiting) : Type 0 where
  pub rule : Rule
  pub found : slice_get rules c.rule ≡ Some rule
  pub premise : slice_get rule.premises c.premise ≡ Some (holds j)

-- the frame of a rule that waits
abbrev pub waiting_frame : Modes → Rule → Judgement → Assignment → Proofs → Waiting → Frame
waiting_frame modes rule j env kids c = record {
  number = c.rule;
  rule = rule;
  rest = drop (c.premise + 1) rule.premises;
  patterns = outputs_of modes j;
  env = env;
  kids = kids;
  levels = c.levels;
}

-- the goal of a judgement premise, with the frame that waits for it, or a stop
abbrev pub asked_result : Modes → Hypotheses → Rule → Judgement → Assignment → Proofs → List Frame →
    Waiting → Result
asked_result modes hyps rule j env kids frames c =
    result_unless (limit_passed (inputs_of modes (judgement_instance (filled env) j)))
    (goal_result hyps c.levels (goal_of modes (judgement_instance (filled env) j))
    (waiting_frame modes rule j env kids c ∷ frames))

-- the store goes on, and the step is the goal of the premise, or a stop
pub record IsAsked (modes : Modes) (rules : List Rule) (old new : Store) (j : Judgement)
    (c : Waiting) (step : Step) : Type 0 where
  pub grows : StoreGrows modes rules old new
  pub is : (hyps : Hypotheses) (next : Answer → Result) (rule : Rule) →
      slice_get rules c.rule ≡ Some rule →
      IsSearchStep modes rules hyps.judgements new next step
      (asked_result modes hyps rule j (env_at (store_envs old) c.env)
      (kids_at (store_kids old) c.kids) (frames_at (store_frames modes rules old) c.before) c)
