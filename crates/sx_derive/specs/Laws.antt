-- What is proved of the walk, of the machine and of the stuck goal.
use Rattle.std.specs.Prelude.{◌≤◌, ◌≡◌, ℕ, suc, List, [], ◌∷◌, ◌++◌, ◌⊎◌, Option, Some}
use Rattle.sx_term.specs.Tree.{Tree}
use Rattle.sx_rules.specs.Rules.{Judgement, Rule, Hypotheses}
use Rattle.sx_rules.specs.Modes.{Modes, Goal, goal_of, outputs_of, AllModed}
use Rattle.sx_rules.specs.Derivations.{
  height_of,
  nodes_of,
  AreShallow,
  HasShallowBinds,
  ShallowJudgements,
  Proof,
  Derives,
}
use Rattle.sx_rules.specs.Orders.{order_of, IsBefore}
use Rattle.sx_rules.specs.First.{Answer, DerivesGoal, AreWanted, IsFirst}
use Rattle.sx_derive.specs.Walk.{Event, try, give, goal_events, levels_from, events}
use Rattle.sx_derive.specs.Search.{
  EachGiven,
  IsReached,
  IsGivenBeforeStop,
  HasStop,
  found,
  exhausted,
  walk,
  tries_of,
}
use Rattle.sx_derive.specs.Stuck.{Blame, IsStuck}
use Rattle.sx_derive.specs.BlameTerms.{BlameHasTexts, BlameIsShallow}
use Rattle.sx_rules.specs.Writable.{HaveTexts, JudgementsHaveTexts, RulesHaveTexts}
use Rattle.sx_derive.specs.Machine.{
  Frame,
  Task,
  hypotheses_from,
  rules_from,
  tasks_events,
  result_events,
  given_result,
  rule_result,
}

-- whatever is given among the events of a goal derives the goal with the outputs given
abbrev pub EventsAreSound : Type 0
EventsAreSound =
    (modes : Modes) (rules : List Rule) (hyps : Hypotheses) → AllModed modes rules →
    (goal : Goal) (depth : ℕ) →
    EachGiven (DerivesGoal modes rules hyps goal) (events modes rules hyps goal depth)

-- each derivation of a goal, of any depth and size, is met among its events in its place by order,
-- unless a stop comes before
abbrev pub EventsAreComplete : Type 0
EventsAreComplete =
    (modes : Modes) (rules : List Rule) (hyps : Hypotheses) → AllModed modes rules →
    (goal : Goal) (depth : ℕ) (q : Answer) → DerivesGoal modes rules hyps goal q →
    IsReached q (events modes rules hyps goal depth)

-- each derivation of a goal is given, or a stop stands among the events
abbrev pub EachDerivationIsGiven : Type 0
EachDerivationIsGiven =
    (modes : Modes) (rules : List Rule) (hyps : Hypotheses) → AllModed modes rules →
    (goal : Goal) (depth : ℕ) (q : Answer) → DerivesGoal modes rules hyps goal q →
    IsGivenBeforeStop q (events modes rules hyps goal depth)
    ⊎ HasStop (events modes rules hyps goal depth)

-- before what is given stands each derivation that is before it in order, unless a stop stands
-- there
abbrev pub EventsAreInOrder : Type 0
EventsAreInOrder =
    (modes : Modes) (rules : List Rule) (hyps : Hypotheses) → AllModed modes rules →
    (goal : Goal) (depth : ℕ) (front back : List (Event Answer)) (p q : Answer) →
    events modes rules hyps goal depth ≡ front ++ (give p ∷ back) →
    DerivesGoal modes rules hyps goal q → IsBefore (order_of q.0) (order_of p.0) →
    IsGivenBeforeStop q front ⊎ HasStop front

-- what a walk finds is the first derivation
abbrev pub FoundIsFirst : Type 0
FoundIsFirst =
    (modes : Modes) (rules : List Rule) (hyps : Hypotheses) → AllModed modes rules →
    (goal : Goal) (wanted : Option (List Tree)) (budget depth : ℕ) (a : Answer) →
    walk wanted budget (events modes rules hyps goal depth) ≡ found a →
    IsFirst modes rules hyps goal wanted a

-- where a walk comes to the end of the events, there is no derivation with outputs that are wanted
abbrev pub ExhaustedMeansNone : Type 0
ExhaustedMeansNone =
    (modes : Modes) (rules : List Rule) (hyps : Hypotheses) → AllModed modes rules →
    (goal : Goal) (wanted : Option (List Tree)) (budget depth : ℕ) →
    walk wanted budget (events modes rules hyps goal depth) ≡ exhausted →
    (q : Answer) → DerivesGoal modes rules hyps goal q → AreWanted wanted q.1 → ⊥

-- a stack of tasks makes the events of a goal: each step takes one task, makes one try, and leaves
-- the events of its result and of the tasks after it
pub record TasksMakeEvents (modes : Modes) (rules : List Rule) (hyps : Hypotheses) : Type 0 where
  pub starts : (levels : ℕ) (goal : Goal) →
      goal_events modes rules hyps (suc levels) goal
      ≡ tasks_events modes rules hyps (hypotheses_from 0 hyps.judgements levels goal [] ∷ [])
  pub hypothesis : (i : ℕ) (j : Judgement) (js : List Judgement) (levels : ℕ) (goal : Goal)
      (frames : List Frame) (ts : List Task) →
      tasks_events modes rules hyps (hypotheses_from i (j ∷ js) levels goal frames ∷ ts)
      ≡ try ∷ (result_events modes rules hyps (given_result modes hyps i j goal frames)
      ++ tasks_events modes rules hyps (hypotheses_from (suc i) js levels goal frames ∷ ts))
  pub hypotheses_end : (i levels : ℕ) (goal : Goal) (frames : List Frame) (ts : List Task) →
      tasks_events modes rules hyps (hypotheses_from i [] levels goal frames ∷ ts)
      ≡ tasks_events modes rules hyps (rules_from 0 rules levels goal frames ∷ ts)
  pub rule : (r : ℕ) (one : Rule) (rs : List Rule) (levels : ℕ) (goal : Goal) (frames : List Frame)
      (ts : List Task) →
      tasks_events modes rules hyps (rules_from r (one ∷ rs) levels goal frames ∷ ts)
      ≡ try ∷ (result_events modes rules hyps (rule_result modes hyps r one levels goal frames)
      ++ tasks_events modes rules hyps (rules_from (suc r) rs levels goal frames ∷ ts))
  pub rules_end : (r levels : ℕ) (goal : Goal) (frames : List Frame) (ts : List Task) →
      tasks_events modes rules hyps (rules_from r [] levels goal frames ∷ ts)
      ≡ tasks_events modes rules hyps ts

-- whatever the rules and the hypotheses, what the machine does with its tasks are the events of the
-- walk
abbrev pub MachineMakesEvents : Type 0
MachineMakesEvents =
    (modes : Modes) (rules : List Rule) (hyps : Hypotheses) → TasksMakeEvents modes rules hyps

-- where no stop stands among the events of a goal, as where a walk comes to their end, there is a
-- stuck goal
abbrev pub StuckGoalExists : Type 0
StuckGoalExists =
    (modes subjects : Modes) (rules : List Rule) (hyps : Hypotheses) → AllModed modes rules →
    (goal : Goal) (depth : ℕ) (path : List ℕ) → (HasStop (events modes rules hyps goal depth) → ⊥) →
    (levels : ℕ) × (blame : Blame) × IsStuck modes subjects rules hyps levels goal path blame

-- a walk that comes to the end of the events has met no stop
abbrev pub ExhaustedHasNoStop : Type 0
ExhaustedHasNoStop =
    (wanted : Option (List Tree)) (budget : ℕ) (es : List (Event Answer)) →
    walk wanted budget es ≡ exhausted → HasStop es → ⊥

-- there is at most one
abbrev pub StuckGoalIsUnique : Type 0
StuckGoalIsUnique =
    (modes subjects : Modes) (rules : List Rule) (hyps : Hypotheses) → AllModed modes rules →
    (goal : Goal) (path : List ℕ) (levels others : ℕ) (one other : Blame) →
    IsStuck modes subjects rules hyps levels goal path one →
    IsStuck modes subjects rules hyps others goal path other → one ≡ other

-- a walk for a judgement's outputs finds a derivation of it, and where it comes to the end of the
-- events there is none
abbrev pub WalkDecides : Type 0
WalkDecides =
    (modes : Modes) (rules : List Rule) (hyps : Hypotheses) → AllModed modes rules →
    (j : Judgement) (budget depth : ℕ) →
    ((a : Answer) →
    walk (Some (outputs_of modes j)) budget (events modes rules hyps (goal_of modes j) depth)
    ≡ found a → Derives rules hyps j a.0)
    × (walk (Some (outputs_of modes j)) budget (events modes rules hyps (goal_of modes j) depth)
    ≡ exhausted → (p : Proof) → Derives rules hyps j p → ⊥)

-- where the goal's terms and the hypotheses are no deeper than 1,000, each proof given at a depth
-- has no more levels than stand below, and its terms and outputs are no deeper than 1,000
abbrev pub AnswersAreBounded : Type 0
AnswersAreBounded =
    (modes : Modes) (rules : List Rule) (hyps : Hypotheses) → ShallowJudgements hyps.judgements →
    (goal : Goal) (depth : ℕ) → AreShallow goal.terms →
    EachGiven (λ a. (height_of a.0 ≤ levels_from depth) × HasShallowBinds a.0 × AreShallow a.1)
    (events modes rules hyps goal depth)

-- where the terms of rules, hypotheses and a goal have core texts, so have those of its stuck goal
abbrev pub StuckGoalHasTexts : Type 0
StuckGoalHasTexts =
    (modes subjects : Modes) (rules : List Rule) (hyps : Hypotheses) → AllModed modes rules →
    RulesHaveTexts rules → JudgementsHaveTexts hyps.judgements →
    (levels : ℕ) (goal : Goal) (path : List ℕ) (blame : Blame) → HaveTexts goal.terms →
    IsStuck modes subjects rules hyps levels goal path blame → BlameHasTexts blame

-- where the terms of hypotheses and a goal are no deeper than 1,000 and no stop stands among its
-- events, those of its stuck goal are no deeper
abbrev pub StuckGoalIsShallow : Type 0
StuckGoalIsShallow =
    (modes subjects : Modes) (rules : List Rule) (hyps : Hypotheses) → AllModed modes rules →
    ShallowJudgements hyps.judgements →
    (depth : ℕ) (goal : Goal) (path : List ℕ) (blame : Blame) → AreShallow goal.terms →
    (HasStop (events modes rules hyps goal depth) → ⊥) →
    IsStuck modes subjects rules hyps (levels_from depth) goal path blame → BlameIsShallow blame

-- each node of what a walk finds is one of its tries, and it makes no more tries than it may
abbrev pub FoundHasFewNodes : Type 0
FoundHasFewNodes =
    (modes : Modes) (rules : List Rule) (hyps : Hypotheses)
    (goal : Goal) (wanted : Option (List Tree)) (budget depth : ℕ) (a : Answer) →
    walk wanted budget (events modes rules hyps goal depth) ≡ found a →
    (nodes_of a.0 ≤ tries_of wanted budget (events modes rules hyps goal depth))
    × (tries_of wanted budget (events modes rules hyps goal depth) ≤ budget)
