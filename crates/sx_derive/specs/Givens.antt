-- What a search is given: its rules, and its hypotheses by their numbers in a store.
use Rattle.std.specs.Prelude.{◌≡◌, ℕ, List, reverse, Option, Some}
use Rattle.sx_rules.specs.Rules.{Judgement, Hypotheses}
use Rattle.sx_rules.specs.Derivations.{Proofs}
use Rattle.sx_rules.specs.declared.rule.Judgement.{Judgement as JudgementOf}
use Rattle.sx_arena.specs.Binds.{env_at}
use Rattle.sx_arena.specs.Facts.{AreFacts}
use Rattle.sx_arena.specs.Matching.{Assignment}
use Rattle.sx_arena.specs.Views.{rules_of, set_modes, rule_of, judgement_of}
use Rattle.sx_derive.specs.Asking.{asked_events, AskedFails}
use Rattle.sx_derive.specs.Descents.{
  AreHyps,
  spot_goal,
  PremisesFailAlong,
  RulesFailAlong,
  PremisesLead,
  RulesLead,
  IsDescent,
}
use Rattle.sx_derive.specs.Failing.{FailsAlong, PremisesFail}
use Rattle.sx_derive.specs.Quiet.{IsQuiet}
use Rattle.sx_derive.specs.Store.{IsStore, StoreGrows, store_trees, store_envs}
use Rattle.sx_derive.specs.Stuck.{Blame, IsStuck}
use Rattle.sx_derive.specs.Walk.{Event, Answer, premise_events, goal_events, rules_events}
use Rattle.sx_derive.specs.Ways.{subject_modes}
use Rattle.sx_derive.specs.declared.bounds.Bounds.{Bounds}
use Rattle.sx_derive.specs.declared.candidate.Candidate.{Candidate}
use Rattle.sx_derive.specs.declared.descent.Descent.{Descent}
use Rattle.sx_derive.specs.declared.descent.Spot.{Spot}
use Rattle.sx_derive.specs.declared.given.Given.{Given}
use Rattle.sx_derive.specs.declared.noted_candidate.NotedCandidate.{NotedCandidate}
use Rattle.sx_derive.specs.declared.store.Store.{Store}

-- the store is one of a search by the rules
abbrev pub IsStoreOf : Given → Store → Type 0
IsStoreOf g s = IsStore (set_modes g.rules.now) (rules_of g.rules.now) s

-- the store goes on from the other in a search by the rules
abbrev pub GrowsIn : Given → Store → Store → Type 0
GrowsIn g old new = StoreGrows (set_modes g.rules.now) (rules_of g.rules.now) old new

-- the facts are the judgements by their numbers
abbrev pub HasFacts : Given → Store → List Judgement → Type 0
HasFacts g s js = AreFacts (set_modes g.rules.now) (store_trees s) js g.facts.now

-- the facts and the pairs are the hypotheses by their numbers
abbrev pub HasHyps : Given → Store → Hypotheses → Type 0
HasHyps g s hyps = AreHyps (set_modes g.rules.now) s g.facts.now g.pairs.now hyps

-- the events of a goal with that many levels, its own counted
abbrev pub events_by : Given → Hypotheses → ℕ → Store → Spot → List (Event Answer)
events_by g hyps levels s spot =
    goal_events (set_modes g.rules.now) (rules_of g.rules.now) hyps levels (spot_goal s spot)

-- the events of a goal among the rules, with that many levels below it
abbrev pub rules_events_by : Given → Hypotheses → ℕ → Store → Spot → List (Event Answer)
rules_events_by g hyps levels s spot =
    rules_events (set_modes g.rules.now) hyps
    (goal_events (set_modes g.rules.now) (rules_of g.rules.now) hyps levels) 0
    (rules_of g.rules.now)
    (spot_goal s spot)

-- the events of a candidate's premises, with that many levels
abbrev pub candidate_events : Given → Hypotheses → ℕ → Store → Candidate →
    List (Event (Assignment × Proofs))
candidate_events g hyps levels s c =
    premise_events (set_modes g.rules.now) hyps
    (goal_events (set_modes g.rules.now) (rules_of g.rules.now) hyps levels)
    (rule_of c.rule.now).premises (env_at (store_envs s) c.env)

-- the events of the goal of a premise under the bindings of a chain
abbrev pub asked_by : Given → List Judgement → Store → ℕ → ℕ → JudgementOf → List (Event Answer)
asked_by g js s env levels j =
    asked_events (set_modes g.rules.now) (rules_of g.rules.now) g.pairs.now js s env levels
    (judgement_of j)

-- where that goal leads without an answer
abbrev pub FailsBy : Given → List Judgement → Store → ℕ → ℕ → JudgementOf → List ℕ → Type 0
FailsBy g js s env levels j =
    AskedFails (set_modes g.rules.now) (rules_of g.rules.now) g.pairs.now js s env levels
    (judgement_of j)

-- the premises of a candidate fail as the notes say, of which the last is that of the premise
abbrev pub CandidateFails : Given → Hypotheses → ℕ → Store → Candidate → List ℕ → Type 0
CandidateFails g hyps levels s c notes =
    PremisesFailAlong (set_modes g.rules.now) (rules_of g.rules.now) hyps levels (reverse notes)
    (rule_of c.rule.now).premises (env_at (store_envs s) c.env)

-- they fail at the premise that is noted, and its goal as the notes say
abbrev pub FailsAtNoted : Given → Hypotheses → ℕ → Store → Candidate → Option ℕ → List ℕ → Type 0
FailsAtNoted g hyps levels s c noted notes =
    (k : ℕ) → noted ≡ Some k →
    PremisesFail (set_modes g.rules.now) (rules_of g.rules.now) hyps
    (FailsAlong (set_modes g.rules.now) (rules_of g.rules.now) hyps levels)
    (goal_events (set_modes g.rules.now) (rules_of g.rules.now) hyps levels) 0 k (reverse notes)
    (rule_of c.rule.now).premises (env_at (store_envs s) c.env)

-- by some hypotheses the candidate's events are quiet, and it fails as the notes say
abbrev pub FailsQuietly : Given → Bounds → Store → Candidate → List ℕ → Type 0
FailsQuietly g bounds s c notes =
    (hyps : Hypotheses) × HasHyps g s hyps
    × IsQuiet bounds.budget (candidate_events g hyps bounds.levels s c)
    × CandidateFails g hyps bounds.levels s c notes

-- by some hypotheses the candidate's events are quiet, and it fails at the premise that is noted
abbrev pub FailsQuietlyAt : Given → Bounds → Store → NotedCandidate → List ℕ → Type 0
FailsQuietlyAt g bounds s c notes =
    (hyps : Hypotheses) × HasHyps g s hyps
    × IsQuiet bounds.budget (candidate_events g hyps bounds.levels s c.candidate)
    × FailsAtNoted g hyps bounds.levels s c.candidate c.noted notes

-- the goal fails among the rules as the notes say, of which the last is its own
abbrev pub RulesFailBy : Given → Hypotheses → ℕ → Store → Spot → List ℕ → Type 0
RulesFailBy g hyps levels s spot notes =
    RulesFailAlong (set_modes g.rules.now) (rules_of g.rules.now) hyps levels (reverse notes)
    (spot_goal s spot)

-- the goal, with that many levels, its own counted, fails as the notes say
abbrev pub GoalFails : Given → Hypotheses → ℕ → Store → Spot → List ℕ → Type 0
GoalFails g hyps levels s spot notes =
    FailsAlong (set_modes g.rules.now) (rules_of g.rules.now) hyps levels (spot_goal s spot)
    (reverse notes)

-- the premises of a goal's candidate lead to the blame
abbrev pub CandidateLeads : Given → Hypotheses → Bounds → Store → Spot → Candidate → Blame → Type 0
CandidateLeads g hyps bounds s spot c =
    PremisesLead (set_modes g.rules.now) (subject_modes g.rules.now) (rules_of g.rules.now) hyps
    bounds.budget bounds.levels c.number (rule_of c.rule.now) (spot_goal s spot) spot.path.items 0
    (rule_of c.rule.now).premises (env_at (store_envs s) c.env)

-- the rules lead from the goal to the blame
abbrev pub GoalLeads : Given → Hypotheses → Bounds → Store → Spot → Blame → Type 0
GoalLeads g hyps bounds s spot =
    RulesLead (set_modes g.rules.now) (subject_modes g.rules.now) (rules_of g.rules.now) hyps
    bounds.budget bounds.levels (spot_goal s spot) spot.path.items

-- the goal, with that many levels, its own counted, is stuck with the blame
abbrev pub IsStuckBy : Given → Hypotheses → ℕ → Store → Spot → Blame → Type 0
IsStuckBy g hyps levels s spot =
    IsStuck (set_modes g.rules.now) (subject_modes g.rules.now) (rules_of g.rules.now) hyps levels
    (spot_goal s spot) spot.path.items

-- the descent is to a blame that is led to, or to a goal from which all that is led to is, and
-- which fails as the notes say
abbrev pub DescendsTo : Given → Hypotheses → Bounds → Store → List ℕ → (Blame → Type 0) →
    Descent → Type 0
DescendsTo g hyps bounds s notes Leads =
    IsDescent (set_modes g.rules.now) (subject_modes g.rules.now) (rules_of g.rules.now) hyps
    bounds.budget bounds.levels s notes Leads
