-- What a goal comes to along first candidates, by what a search is given.
use Rattle.std.specs.Prelude.{◌≡◌, ℕ, ◌+◌, List, ◌++◌, drop, slice_get, Some}
use Rattle.sx_rules.specs.Rules.{Judgement, Premise, Rule}
use Rattle.sx_arena.specs.Views.{rules_of, set_modes, rule_of}
use Rattle.sx_derive.specs.Givens.{HasFacts}
use Rattle.sx_derive.specs.Runs.{FitIn, candidates_of}
use Rattle.sx_derive.specs.Traced.{
  CandidateTraced,
  GoalComesTo,
  IsTraced,
  IsTracedUnder,
  PremiseTraced,
}
use Rattle.sx_derive.specs.Walk.{Event, Answer}
use Rattle.sx_derive.specs.declared.candidate.Candidate.{Candidate}
use Rattle.sx_derive.specs.declared.chains.Waiting.{Waiting}
use Rattle.sx_derive.specs.declared.given.Given.{Given}
use Rattle.sx_derive.specs.declared.numbered_goal.NumberedGoal.{NumberedGoal}
use Rattle.sx_derive.specs.declared.store.Store.{Store}
use Rattle.sx_derive.specs.declared.tasks.Task.{Task as TaskOf}
use Rattle.sx_derive.specs.declared.trace.Premised.{Premised}
use Rattle.sx_derive.specs.declared.trace.Traced.{Traced}

-- the rule of the cell waits at the premise
abbrev pub WaitsAt : Given → Premise → Waiting → Type 0
WaitsAt g p c =
    (rule : Rule) × (slice_get (rules_of g.rules.now) c.rule ≡ Some rule)
    × (slice_get rule.premises c.premise ≡ Some p)

-- the events come to this, with so many tries to make before and after it
abbrev pub ComesToBy : Given → List Judgement → Store → Store → ℕ → ℕ → List (Event Answer) →
    (List ℕ → Type 0) → List TaskOf → Traced → Type 0
ComesToBy g js first new tries left es Noted tasks t =
    GoalComesTo (set_modes g.rules.now) (rules_of g.rules.now) g.pairs.now js (candidates_of g)
    first new tries left es Noted tasks t

-- the goal comes to this, and these tasks are left
abbrev pub IsTracedBy : Given → Store → Store → ℕ → ℕ → NumberedGoal → Traced → List TaskOf →
    Type 0
IsTracedBy g old new tries left goal t tasks =
    (js : List Judgement) → HasFacts g old js →
    IsTraced (set_modes g.rules.now) (rules_of g.rules.now) g.pairs.now js (candidates_of g) old new
    tries left goal.levels goal.form goal.terms.items tasks t

-- the goal comes to this below the frame of the cell, and these tasks are left
abbrev pub IsTracedUnderBy : Given → Store → Store → ℕ → ℕ → Waiting → NumberedGoal → Traced →
    List TaskOf → Type 0
IsTracedUnderBy g old new tries left c goal t tasks =
    (js : List Judgement) → HasFacts g old js →
    IsTracedUnder (set_modes g.rules.now) (rules_of g.rules.now) g.pairs.now js (candidates_of g)
    old new tries left c goal.levels goal.form goal.terms.items tasks t

-- the premise comes to this, whatever the rule with the cell's number, and these tasks are left
-- behind those before, whatever those are
abbrev pub IsPremiseTracedBy : Given → Store → Store → ℕ → ℕ → Waiting → Premise → Premised →
    List TaskOf → Type 0
IsPremiseTracedBy g old new tries left c p premised tasks =
    (js : List Judgement) (rule : Rule) (before : List TaskOf) → HasFacts g old js →
    FitIn g old before → slice_get (rules_of g.rules.now) c.rule ≡ Some rule →
    PremiseTraced (set_modes g.rules.now) (rules_of g.rules.now) g.pairs.now js (candidates_of g)
    old new tries left c rule p (drop (c.premise + 1) rule.premises) before (before ++ tasks)
    premised

-- the candidate comes to this, and these tasks are left behind those before, whatever those are
abbrev pub IsCandidateTracedBy : Given → Store → Store → ℕ → ℕ → Candidate → ℕ → Traced →
    List TaskOf → Type 0
IsCandidateTracedBy g old new tries left c levels t tasks =
    (js : List Judgement) (before : List TaskOf) → HasFacts g old js → FitIn g old before →
    CandidateTraced (set_modes g.rules.now) (rules_of g.rules.now) g.pairs.now js (candidates_of g)
    old new tries left c.number (rule_of c.rule.now) levels c.env before (before ++ tasks) t
