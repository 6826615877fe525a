-- What a goal comes to along first candidates.
use Rattle.std.specs.Prelude.{◌≡◌, ℕ, suc, ◌≤◌, List, [], ◌∷◌, ◌++◌, length, reverse}
use Rattle.std.specs.Prelude.{Option, Some, None}
use Rattle.sx_rules.specs.Derivations.{no_more, ◌⊳◌}
use Rattle.sx_rules.specs.Modes.{Modes, outputs_of, Goal}
use Rattle.sx_rules.specs.Rules.{Judgement, Premise, Rule}
use Rattle.sx_arena.specs.Arena.{AreBelow}
use Rattle.sx_arena.specs.Binds.{env_at}
use Rattle.sx_arena.specs.Matching.{Assignment, match_all}
use Rattle.sx_arena.specs.declared.fact.Fact.{Fact}
use Rattle.sx_arena.specs.declared.pairs.Pair.{Pair}
use Rattle.sx_derive.specs.Candidates.{goal_in}
use Rattle.sx_derive.specs.Chains.{HeadFits, kids_at, frame_of}
use Rattle.sx_derive.specs.Descents.{IsFirstRule, IsFirstFact}
use Rattle.sx_derive.specs.Failing.{PremisesFail, FailsAlong}
use Rattle.sx_derive.specs.Handing.{hyps_in, answer_in}
use Rattle.sx_derive.specs.Machine.{joined_proofs, premises_after, after_frame}
use Rattle.sx_derive.specs.Store.{
  StoreGrows,
  store_trees,
  store_envs,
  store_kids,
}
use Rattle.sx_derive.specs.Halting.{AfterTries, HaltsAfter}
use Rattle.sx_derive.specs.Runs.{IsRunTo}
use Rattle.sx_derive.specs.Tasks.{events_left, Piled, TasksFit}
use Rattle.sx_derive.specs.Walk.{Event, give, Answer, then_each, goal_events}
use Rattle.sx_derive.specs.Walked.{events_in}
use Rattle.sx_derive.specs.declared.chains.Waiting.{Waiting}
use Rattle.sx_derive.specs.declared.store.Store.{Store}
use Rattle.sx_derive.specs.declared.tasks.Ending.TheVariants.{Found, Exhausted}
use Rattle.sx_derive.specs.declared.tasks.Task.{Task as TaskOf}
use Rattle.sx_derive.specs.declared.trace.Premised.{Premised}
use Rattle.sx_derive.specs.declared.trace.Premised.TheVariants.{Holds, Fails, Halts}
use Rattle.sx_derive.specs.declared.trace.Traced.{Traced}
use Rattle.sx_derive.specs.declared.trace.Traced.TheVariants.{Answered, Failed, Halted}

-- no fact is the goal, and the rule is the first that fits
abbrev pub IsFirstCandidate : Modes → List Rule → List Fact → Store → ℕ → List ℕ → Goal →
    Option (ℕ × ℕ) → Type 0
IsFirstCandidate modes rules facts s form terms goal None = Unit {0}
IsFirstCandidate modes rules facts s form terms goal (Some found) =
    IsFirstFact form terms facts None × IsFirstRule modes s goal 0 rules (Some found)

-- after some tries the events give the answer and are those of the tasks that are left; or nothing
-- is given among them, no task is left, and the notes are as told; or they halt the walk
abbrev pub GoalComesTo : Modes → List Rule → List Pair → List Judgement → ℕ → Store → Store → ℕ →
    ℕ → List (Event Answer) → (List ℕ → Type 0) → List TaskOf → Traced → Type 0
GoalComesTo modes rules pairs js candidates first new old left es Noted tasks
    (Answered head outputs) =
    IsRunTo modes rules pairs js candidates first new old left es tasks (Found head outputs)
GoalComesTo modes rules pairs js candidates first new old left es Noted tasks (Failed notes) =
    IsRunTo modes rules pairs js candidates first new old left es tasks Exhausted
    × Noted (reverse notes.items)
GoalComesTo modes rules pairs js candidates first new old left es Noted tasks (Halted ending) =
    StoreGrows modes rules first new × HaltsAfter old left es ending

-- the goal comes to this, with so many tries to make before and after it
abbrev pub IsTraced : Modes → List Rule → List Pair → List Judgement → ℕ → Store → Store → ℕ → ℕ →
    ℕ → ℕ → List ℕ → List TaskOf → Traced → Type 0
IsTraced modes rules pairs js candidates old new tries left levels form terms =
    GoalComesTo modes rules pairs js candidates old new tries left
    (events_in modes rules pairs js old levels form terms)
    (FailsAlong modes rules (hyps_in pairs old js) (suc levels) (goal_in old form terms))

-- the goal comes to this, and the frame is what follows each of its further answers
abbrev pub IsTracedUnder : Modes → List Rule → List Pair → List Judgement → ℕ → Store → Store →
    ℕ → ℕ → Waiting → ℕ → ℕ → List ℕ → List TaskOf → Traced → Type 0
IsTracedUnder modes rules pairs js candidates old new tries left c levels form terms tasks
    (Answered head outputs) =
    HeadFits (length (store_envs new)) (length (store_kids new)) head
    × AreBelow (length (store_trees new)) outputs.items
    × Piled modes rules candidates old tasks new
    × ((more : List (Event Answer))
    × AfterTries tries left (events_in modes rules pairs js old levels form terms)
    (give (answer_in new head outputs.items) ∷ more)
    × (then_each (after_frame modes rules (hyps_in pairs old js)
    (frame_of modes rules (store_envs old) (store_kids old) c)) more
    ≡ events_left modes rules pairs js new tasks))
IsTracedUnder modes rules pairs js candidates old new tries left c levels form terms tasks
    (Failed notes) =
    IsTraced modes rules pairs js candidates old new tries left levels form terms tasks
    (Failed notes)
IsTracedUnder modes rules pairs js candidates old new tries left c levels form terms tasks
    (Halted ending) =
    IsTraced modes rules pairs js candidates old new tries left levels form terms tasks
    (Halted ending)

-- the outputs of an answer match, and its proof is one kid more; or they do not match
abbrev pub IsAnswerTaken : Modes → Store → Store → Waiting → Judgement → Answer → Premised → Type 0
IsAnswerTaken modes old new c j a (Holds env kids) =
    (env ≤ length new.binds.cells.items) × (kids ≤ length new.kids.items)
    × (match_all (outputs_of modes j) a.1 (env_at (store_envs old) c.env)
    ≡ Some (env_at (store_envs new) env))
    × (kids_at (store_kids new) kids
    ≡ joined_proofs (kids_at (store_kids old) c.kids) (a.0 ⊳ no_more))
IsAnswerTaken modes old new c j a (Fails notes) =
    (match_all (outputs_of modes j) a.1 (env_at (store_envs old) c.env) ≡ None)
    × (notes.items ≡ [])
IsAnswerTaken modes old new c j a (Halts ending) = ⊥

-- this, unless the walk halts at the premise
abbrev pub UnlessHalts : Premised → Type 0 → Type 0
UnlessHalts (Holds env kids) Then = Then
UnlessHalts (Fails notes) Then = Then
UnlessHalts (Halts ending) Then = Unit {0}

-- this, unless the walk halts
abbrev pub UnlessHalted : Traced → Type 0 → Type 0
UnlessHalted (Answered head outputs) Then = Then
UnlessHalted (Failed notes) Then = Then
UnlessHalted (Halted ending) Then = Unit {0}

module _ (modes : Modes) (rules : List Rule) (pairs : List Pair) (js : List Judgement) where
  -- what is left to be tried where a rule is in work at these premises
  abbrev pub premises_left : Store → ℕ → Rule → ℕ → List Premise → ℕ → ℕ → List TaskOf →
      List (Event Answer)
  premises_left s number rule levels ps env kids tasks =
      premises_after modes rules (hyps_in pairs s js) number rule levels ps
      (env_at (store_envs s) env) (kids_at (store_kids s) kids)
      ++ events_left modes rules pairs js s tasks

  -- the notes hold of the premises from that number on, which are not before it
  abbrev pub NotedFrom : Store → ℕ → ℕ → List Premise → Assignment → List ℕ → Type 0
  NotedFrom s levels i ps env [] = Unit {0}
  NotedFrom s levels i ps env (k ∷ ks) =
      (i ≤ k) × PremisesFail modes rules (hyps_in pairs s js)
      (FailsAlong modes rules (hyps_in pairs s js) levels)
      (goal_events modes rules (hyps_in pairs s js) levels) i k ks ps env

  -- the premise holds by what is given first, and what is left are the premises after it; or by
  -- what is left nothing is given at it, and the notes say why; or the walk halts
  abbrev pub IsPremised : Store → Store → ℕ → ℕ → Waiting → Rule → Premise → List Premise →
      List TaskOf → List TaskOf → Premised → Type 0
  IsPremised old new tries left c rule p ps before after (Holds env kids) =
      (env ≤ length new.binds.cells.items) × (kids ≤ length new.kids.items)
      × AfterTries tries left (premises_left old c.rule rule c.levels (p ∷ ps) c.env c.kids before)
      (premises_left new c.rule rule c.levels ps env kids after)
      × ((notes : List ℕ) →
      NotedFrom old c.levels (suc c.premise) ps (env_at (store_envs new) env) notes →
      NotedFrom old c.levels c.premise (p ∷ ps) (env_at (store_envs old) c.env) notes)
  IsPremised old new tries left c rule p ps before after (Fails notes) =
      AfterTries tries left (premises_left old c.rule rule c.levels (p ∷ ps) c.env c.kids before)
      (events_left modes rules pairs js new after)
      × NotedFrom old c.levels c.premise (p ∷ ps) (env_at (store_envs old) c.env)
      (reverse notes.items)
  IsPremised old new tries left c rule p ps before after (Halts ending) =
      HaltsAfter tries left (premises_left old c.rule rule c.levels (p ∷ ps) c.env c.kids before)
      ending

  -- the tasks before stay piled as those after
  abbrev pub StayPiled : ℕ → Store → Store → List TaskOf → List TaskOf → Type 0
  StayPiled candidates old new before after =
      (first : Store) → Piled modes rules candidates first before old →
      Piled modes rules candidates first after new

  -- the premise is gone through; unless the walk halts, the tasks stay piled and fit
  pub record PremiseTraced (candidates : ℕ) (old new : Store) (tries left : ℕ) (c : Waiting)
      (rule : Rule) (p : Premise) (ps : List Premise) (before after : List TaskOf)
      (premised : Premised) : Type 0 where
    pub piled : UnlessHalts premised (StayPiled candidates old new before after)
    pub grows : StoreGrows modes rules old new
    pub fits : UnlessHalts premised (TasksFit modes rules new candidates after)
    pub is : IsPremised old new tries left c rule p ps before after premised

  -- what is left of a candidate's premises and of the tasks gives the answer first, after which the
  -- tasks are left; or it comes to them, and the notes say why; or it halts the walk
  abbrev pub IsCandidateTraced : Store → Store → ℕ → ℕ → ℕ → Rule → ℕ → ℕ → List TaskOf →
      List TaskOf → Traced → Type 0
  IsCandidateTraced old new tries left number rule levels env before after
      (Answered head outputs) =
      HeadFits (length (store_envs new)) (length (store_kids new)) head
      × AreBelow (length (store_trees new)) outputs.items
      × AfterTries tries left (premises_left old number rule levels rule.premises env 0 before)
      (give (answer_in new head outputs.items) ∷ events_left modes rules pairs js new after)
  IsCandidateTraced old new tries left number rule levels env before after (Failed notes) =
      AfterTries tries left (premises_left old number rule levels rule.premises env 0 before)
      (events_left modes rules pairs js new after)
      × NotedFrom old levels 0 rule.premises (env_at (store_envs old) env) (reverse notes.items)
  IsCandidateTraced old new tries left number rule levels env before after (Halted ending) =
      HaltsAfter tries left (premises_left old number rule levels rule.premises env 0 before) ending

  -- the candidate's premises are gone through; unless the walk halts, the tasks stay piled
  pub record CandidateTraced (candidates : ℕ) (old new : Store) (tries left number : ℕ)
      (rule : Rule) (levels env : ℕ) (before after : List TaskOf) (t : Traced) : Type 0 where
    pub piled : UnlessHalted t (StayPiled candidates old new before after)
    pub grows : StoreGrows modes rules old new
    pub is : IsCandidateTraced old new tries left number rule levels env before after t
